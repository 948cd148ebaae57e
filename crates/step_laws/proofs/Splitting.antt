-- The step of a choice or parallel that is entered, through the words: by one side, by both, or by the end of
-- both, each from what its sides' steps come to, one level deeper. A side has no sequences around it, and
-- stands in words that are ready for it; what the split makes of the side's step the sequences around the
-- split see. Assumes nothing.
use Rattle.std.proofs.Common.{ℕ, suc, ◌+◌, ◌*◌, ◌-◌, ◌≤◌, ◌≡◌, sym, subst, ◌∙◌, List, [], arith, length}
use Rattle.std.proofs.Math.Option.{Option, some}
use Rattle.terms.specs.Term.{Term}
use Rattle.places.specs.Place.{Place}
use Rattle.rules.specs.declared.Event.TheVariants.{Tick as ✓}
use Rattle.rules.specs.Process.{Address, Split, Process, Ω, cells}
use Rattle.rules.specs.Track.{Entered, first_eval, around}
use Rattle.rules.specs.Track as Track
use Rattle.rules.specs.Step.{Stepped, step, by_side}
use Rattle.rules.proofs.Derived.{step_derived}
use Rattle.rules.proofs.Stripped.{ends_at_Ω}
use Rattle.rules.proofs.Quiet.{Quiet, quiet_meets_none}
use Rattle.rules.proofs.Ranged.{Calls}
use Rattle.plans.specs.words.Plan.{Layout}
use Rattle.control.specs.words.Words.{node}
use Rattle.control.specs.words.Control.{label, term, frame}
use Rattle.control.proofs.Chains.{Awaiting, TellsBehind}
use Rattle.weighing.proofs.Told.{From, wrapped}
use Rattle.leaves.specs.code.Leaves.{Done}
use Rattle.stepping.specs.code.Take.{take, in_side, close}
use Rattle.step_laws.proofs.Writing.{Words}
use Rattle.step_laws.proofs.Going.{at_words, Fits, Goes, Sound}
use Rattle.step_laws.proofs.Settling.{Numbered, fits_part, settled_goes, tells_told}
use Rattle.step_laws.proofs.Opening.{Side, number, is_side, opposite, side_term, frame_in, split_by}
use Rattle.step_laws.proofs.Opening.{Entry, entry_turned}
use Rattle.step_laws.proofs.Entering.{enter_to, side_cells}
use Rattle.step_laws.proofs.Starting.{Starts, starts_by, start_ready, start_is_step, start_fits}
use Rattle.step_laws.proofs.Starting.{in_side_is}
use Rattle.step_laws.proofs.OneSide.{Turns, Closes, last_term, was_splits}
use Rattle.step_laws.proofs.OneSide as OneSide
use Rattle.step_laws.proofs.Dropping.{one_goes}
use Rattle.step_laws.proofs.SideParts.{Parts, side_parts}
use Rattle.step_laws.proofs.Sideless.{Sideless, side_nodes_sideless, one_sideless}
use Rattle.step_laws.proofs.Nesting.{needs, none_wrapped, Found, absent, present, found, Went, Takes}

-- the room of a side's part, with what entering it adds
part_fits : (u : Words) (i : Entered) (y z : Stepped) → Parts i y z → Fits u z.outcome
    → Fits u (around i y.outcome z.outcome.event z.outcome.process z.outcome.reference)
unfolding around
part_fits u i y z h f = record {
  fresh_fits = rw (← h.fresh_is) f.fresh_fits;
  nodes_fit = rw (← h.labels_are) f.nodes_fit;
  arcs_fit = rw (← h.arcs_are) f.arcs_fit;
  meetings_fit = rw (← h.meetings_are) f.meetings_fit;
  met_fit = rw (← h.met_are) f.met_fit;
  cells_fit = f.cells_fit;
}

module _ (l : Layout) (p x : List ℕ) (ts : List Term) (count : ℕ) (ds : List ℕ) (numbered : Numbered p) where
  -- a part's step, inside the sequences around it
  pub closed_goes : (n b : ℕ) (ks : List ℕ) (qs : List Awaiting) (R : Process) (u : Words) (r y : Stepped)
      (code : Done)
      → Sound u → TellsBehind l p x u.nodes ks qs → (r.outcome.event ≡ ✓ → r.outcome.met ≡ [])
      → Closes l p x count n b ks R u r code → wrapped qs (some r) ≡ some y → Fits u y.outcome
      → Goes l p x count n b R u y code
  closed_goes n b ks qs R u r y code sound tells none_met c steps fits =
      subst (Goes l p x count n b R u y) (sym c.is)
      (settled_goes l p x count n b (term u.nodes n) (frame u.nodes n) R u r c.done
      y none_met fits sound numbered
      ks qs c.ends (tells_told l p x u.nodes c.done.nodes ks qs tells) steps)

  module _ (deep : ℕ) (takes : Takes l p x ts count ds deep) where
    -- an entered split, by its side s and the other, of which each may be gone into
    pub record Splitting (s : Side) (n b : ℕ) (ks : List ℕ) (qs : List Awaiting) (v : Place) (k : Split)
        (m o : Option ℕ)
        (P Q : Process) (size : ℕ) (u : Words) : Type 0 where
      pub entry : Entry l p x count s n b ks v k m o P Q u
      pub sideless : Sideless u.nodes
      pub tells : TellsBehind l p x u.nodes ks qs
      pub calls : Calls ts P
      pub other_calls : Calls ts Q
      pub enough : needs P ≤ deep
      pub other_enough : needs Q ≤ deep
      pub small : cells P + 2 * needs P ≤ 4096
      pub other_small : cells Q + 2 * needs Q ≤ 4096
      pub sized : size ≡ length ks + suc (cells P + cells Q)
      pub few : size ≤ 4096

    pub splitting_turned : (s : Side) (n b : ℕ) (ks : List ℕ) (qs : List Awaiting) (v : Place) (k : Split)
        (m o : Option ℕ) (P Q : Process) (size : ℕ) (u : Words) → Splitting s n b ks qs v k m o P Q size u
        → Splitting (opposite s) n b ks qs v k o m Q P size u
    splitting_turned s n b ks qs v k m o P Q size u h = record {
      entry = entry_turned l p x count n b ks v k u s m o P Q h.entry;
      sideless = h.sideless;
      tells = h.tells;
      calls = h.other_calls;
      other_calls = h.calls;
      enough = h.other_enough;
      other_enough = h.enough;
      small = h.other_small;
      other_small = h.small;
      sized = omega (arith, h.sized);
      few = h.few;
    }

    -- a side's step, one level deeper, where own is its cells
    module _ (s : Side) (n b : ℕ) (ks : List ℕ) (v : Place) (k : Split) (m o : Option ℕ) (P Q : Process)
        (c : ℕ)
        (a : Address) (at own : ℕ) (u : Words) (y : Stepped) where
      abbrev into : Entered
      into = first_eval m (some c) v (at_words n u)

      abbrev f : ℕ
      f = frame_in p u.nodes k n

      abbrev u' : Words
      u' = enter_to p s n f u

      abbrev pub side_done : Done
      side_done = take p count ds deep into.reference f at own u'.tally u'.nodes u'.track

      abbrev pub side_code : Done
      side_code =
          in_side p count ds (take p count ds deep) n (number s) (side_term p s (term u.nodes n)) f at own
          u.tally u.nodes u.track

      pub side_goes : (h : Starts l p x count ts s n b ks v k m o P Q c a u y) → Sideless u.nodes
          → Calls ts P
          → From ds count at a → own ≡ cells P → needs P ≤ deep → cells P + 2 * needs P ≤ 4096
          → Fits u' y.outcome
          → Went l p x ts count ds into.reference f P u' y side_done
      unfolding wrapped
      side_goes h sl calls from is_cells enough small fits =
          let splits = h.entry.there.splits in
          takes into.reference f P [] [] at own a u' y (record {
            ready = start_ready h;
            sideless =
                side_nodes_sideless n (number s) u.nodes (is_side s) splits.marked sl _ f u.tally;
            tells = tt;
            calls = calls;
            from = from;
            enough = enough;
            sized = omega (arith, is_cells);
            small = omega (arith, is_cells, small);
            steps = start_is_step h;
            fits = fits;
          })

      -- and the words that it leaves
      pub side_marked : (h : Turns l p x count ts s n b ks v k m o P Q c a u y side_done)
          → label side_done.nodes n ≡ 0 → ⊥
      side_marked h e = (was_splits h).marked (sym (last_term h).label_lasts ∙ e)

    -- what one side's step makes of its split
    module _ (s : Side) (n b : ℕ) (ks : List ℕ) (qs : List Awaiting) (v : Place) (k : Split) (m o : Option ℕ)
        (P Q : Process) (c : ℕ) (a : Address) (at size : ℕ) (u : Words) (z : Stepped)
        (h : Splitting s n b ks qs v k m o P Q size u) (from : From ds count at a)
        (fits : Fits u z.outcome) where
      abbrev i : Entered
      i = first_eval m (some c) v (at_words n u)

      abbrev own : ℕ
      own = node (5 + number s) u.nodes n

      abbrev other : ℕ
      other = node (8 - number s) u.nodes n

      abbrev side : Done
      side = side_done s n b ks v k m o P Q c a at own u z

      abbrev one_code : Done
      one_code =
          close p count ds n (number s) b size own other (side_code s n b ks v k m o P Q c a at own u z)

      module _ (y r : Stepped) (is_step : step ts P (Track.inside i (at_words n u)) a ≡ some y)
          (makes : by_side k i (λ q R. split_by s v k q o R Q) n (some y) ≡ some r)
          (steps : wrapped qs (some r) ≡ some z) where
        one_quiet : r.outcome.event ≡ ✓ → (r.outcome.process ≡ Ω) × (r.outcome.met ≡ [])
        one_quiet e =
            let parts = side_parts s v k o Q i n y r makes in
            let (c, _, d) = step_derived ts P (Track.inside i (at_words n u)) a y is_step in
            let (ends, same_process) = parts.ends e in (
              same_process ∙ ends_at_Ω d ends,
              parts.met_are ∙ quiet_meets_none ts d (subst Quiet (sym ends) tt),
            )

        one_went : Went l p x ts count ds n b (split_by s v k m o P Q) u z one_code
        unfolding close
        one_went =
            let parts = side_parts s v k o Q i n y r makes in
            let room = part_fits u i y r parts (fits_part u r z qs steps one_quiet fits) in
            let e = r.outcome.event in
            let R = r.outcome.process in
            let q = r.outcome.reference in
            let start = starts_by l p x count ts s n b ks v k m o P Q c a u y h.entry is_step e R q
            parts.cells_more room in
            let went = side_goes s n b ks v k m o P Q c a at own u y start h.sideless h.calls from
            (side_cells l p x u.nodes s n b ks v k P Q h.entry.there.splits) h.enough h.small
            (start_fits start e R q room) in
            let turn : Turns l p x count ts s n b ks v k m o P Q c a u y side =
            record { starts = start; goes = went.goes } in
            rw (in_side_is start ds (take p count ds deep) at own) (record {
              goes = closed_goes n b ks qs (split_by s v k m o P Q) u r z (OneSide.one_code turn size)
                  h.entry.sound
                  h.tells (λ w. (one_quiet w).1) (one_goes k turn size h.sized h.few r makes)
                  steps fits;
              keeps = one_sideless n side.nodes side.track
                  (side_marked s n b ks v k m o P Q c a at own u y turn) went.keeps.after p (number s)
                  b size own other
                  side.taken (is_side s);
            })

      one_by : (y : Stepped) → step ts P (Track.inside i (at_words n u)) a ≡ some y
          → Found (by_side k i (λ q R. split_by s v k q o R Q) n (some y))
          → wrapped qs (by_side k i (λ q R. split_by s v k q o R Q) n (some y)) ≡ some z
          → Went l p x ts count ds n b (split_by s v k m o P Q) u z one_code
      one_by y e (absent q) steps = absurd (none_wrapped qs z (rw q at steps))
      one_by y e (present r q) steps = one_went y r e q (rw q at steps)

      one_found : Found (step ts P (Track.inside i (at_words n u)) a)
          → wrapped qs (by_side k i (λ q R. split_by s v k q o R Q) n
          (step ts P (Track.inside i (at_words n u)) a)) ≡ some z
          → Went l p x ts count ds n b (split_by s v k m o P Q) u z one_code
      unfolding by_side
      one_found (absent e) steps = absurd (none_wrapped qs z (rw e at steps))
      one_found (present y e) steps = one_by y e (found _) (rw e at steps)

      pub one_opened : wrapped qs (by_side k i (λ q R. split_by s v k q o R Q) n
          (step ts P (Track.inside i (at_words n u)) a))
          ≡ some z → Went l p x ts count ds n b (split_by s v k m o P Q) u z one_code
      one_opened = one_found (found (step ts P (Track.inside i (at_words n u)) a))
