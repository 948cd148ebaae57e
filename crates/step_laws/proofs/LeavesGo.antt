-- The steps that look no further down: a call, a prefix, an internal choice, SKIP and STOP at a reference. Each
-- labels the reference, draws, and leaves what comes of it at the last one drawn, inside the chain that stood
-- around the term; the sequences around it see its event as `Settling` has it. Assumes nothing.
use Rattle.std.proofs.Common.{ℕ, suc, ◌+◌, ◌-◌, ◌≤◌, ◌<◌, ◌≡◌, refl, sym, ap, subst, ◌∙◌, Bool, true, false}
use Rattle.std.proofs.Common.{List, [], ◌∷◌, arith, length, eqb}
use Rattle.std.proofs.Math.Option.{Option, none, some}
use Rattle.std.proofs.Math.ListN.{get_elem?}
use Rattle.lines.specs.Line.{choose}
use Rattle.frames.specs.TableFrame.{event_room}
use Rattle.terms.specs.Term.{call, SKIP, STOP, Term, leaf_kind}
use Rattle.places.specs.Place.{Place}
use Rattle.rules.specs.declared.Event.TheVariants.{Tau as τ, Tick as ✓, Tau, Tick, Visible}
use Rattle.rules.specs.Process.{one, two, three, four, Address, Process, leaf, prefix, internal, split}
use Rattle.rules.specs.Process.{sequence, Ω, ⊥', below, right_side, rhs, cells}
use Rattle.rules.specs.Track.{pair, Outcome, labelled, prefixed}
use Rattle.rules.specs.Step.{Stepped, stepped, step}
use Rattle.rules.proofs.Marked.{one_same, past_drawn}
use Rattle.rules.proofs.Marked as Marked
use Rattle.rules.proofs.Holding.{held}
use Rattle.rules.proofs.Ranged.{Calls}
use Rattle.plans.specs.words.Plan.{Layout, second, around}
use Rattle.plans.specs.words.Plan as Plan
use Rattle.control.specs.words.Words.{reference_room, node}
use Rattle.control.specs.words.Control.{label, state, term, frame, resting, at_end, dead, Around, beyond}
use Rattle.control.specs.words.Control.{Untouched, Rests, HoldsControl}
use Rattle.rules.specs.declared.Event.{Event}
use Rattle.control.proofs.Framed.{around_lasting, untouched_told}
use Rattle.control.proofs.Chains.{Awaiting, TellsBehind, around_term, around_called}
use Rattle.control.specs.words.Sums.{capped}
use Rattle.looking.specs.code.Looking.{digit_at, taken}
use Rattle.weighing.proofs.Told.{wrapped, wrapped_none, number, From, from_at, next_at}
use Rattle.drawing.specs.code.Drawing.{one_node, one_arc, one_met, drawn, standing}
use Rattle.drawing.specs.code.Drawing as Marks
use Rattle.marks.specs.words.Mark.{own_mark, event_mark}
use Rattle.marks.proofs.Laws.{own_small, event_small, own_some, event_some}
use Rattle.leaves.specs.code.Leaves.{Done, single, settled, by_event, after_settling}
use Rattle.leaves.specs.code.Leaves as Leaves
use Rattle.step_laws.proofs.TrackLoops.{capped_below}
use Rattle.step_laws.proofs.NodeViews.{standing_there, standing_elsewhere, labelled_whole}
use Rattle.step_laws.proofs.NodeViews.{labelled_there, labelled_elsewhere}
use Rattle.step_laws.proofs.NodeViews.{own_told, event_told}
use Rattle.step_laws.proofs.Writing.{Words, followed, Writes, behind}
use Rattle.step_laws.proofs.Going.{at_words, added, Fits, Ready, Goes, Ends}
use Rattle.step_laws.proofs.Parts.{label_to, arc_to, on_to, keep_to, one_on, one_kept, Clean}
use Rattle.step_laws.proofs.Parts.{sound_clean, clean_after, on_writes, on_arc_writes, keep_writes}
use Rattle.step_laws.proofs.Parts.{Formed, untouched_below, untouched_around, untouched_formed}
use Rattle.step_laws.proofs.Parts.{new_stands, new_rests, rests_holds, single_cell}
use Rattle.step_laws.proofs.Settling.{come_as, Numbered, one_other, fits_part, settled_goes}
use Rattle.step_laws.proofs.Settling.{tells_told}

-- the frame of what is called is no later than the call
beyond_most : (p : List ℕ) (t n f : ℕ) → f < n → beyond p t n f ≤ n
unfolding beyond
beyond_most p t n f h = go (eqb (around p t) 0)
  where
    go : (c : Bool) → choose c f n ≤ n
    go true = omega arith
    go false = omega arith

-- the words after a label, and after an arc to the fresh reference too, with what stands there
abbrev marked_first : Words → ℕ → List ℕ
marked_first u n = Marks.labelled n (own_mark (term u.nodes n)) u.nodes

abbrev after_one : Words → ℕ → ℕ → ℕ → ℕ → List ℕ
after_one u n s t f = standing u.tally.fresh s t f (marked_first u n)

-- a part that rests at a reference of its own
module _ (l : Layout) (p x : List ℕ) (count n b : ℕ) (P : Process) (ks : List ℕ) (u : Words)
    (ready : Ready l p x count n b P ks u) (rests : Rests l p x u.nodes n b ks P)
    (own : (j : ℕ) → held j n P ≡ Marked.one j n) (v : Place)
    (place_is : l.place (term u.nodes n) ≡ v) where
  abbrev at_term : ℕ
  at_term = term u.nodes n

  abbrev at_frame : ℕ
  at_frame = frame u.nodes n

  term_below : at_term < 1024
  term_below = untouched_below l p x u.nodes at_term (around p at_term) P rests.untouched_there

  clean_there : Clean u
  clean_there = sound_clean u ready.sound

  drawn_there : n < u.tally.fresh
  drawn_there = past_drawn n u.tally.fresh (omega (arith, ready.once n, own n, one_same n n refl))

  frame_below : at_frame < u.tally.fresh
  frame_below = omega (arith, rests.stands.framed, drawn_there)

  bound_below : b < u.tally.fresh
  bound_below = omega (arith, rests.stands.within, drawn_there)

  own_apart : (j : ℕ) → j < u.tally.fresh → held j n P ≡ 0 → j ≡ n → ⊥
  own_apart j h z e = omega (arith, z, own j, one_same j n e)

  bare_later : (mark j : ℕ) → u.tally.fresh ≤ j → label (Marks.labelled n mark u.nodes) j ≡ 0
  bare_later mark j h =
      labelled_elsewhere n mark u.nodes 0 j (omega arith) (λ e _. omega (arith, e, drawn_there))
      ∙ ready.sound.clean j 0 h (omega arith)

  -- one label and one arc, after which Q goes on
  module _ (e : Event) (Q : Process) (part : Fits u (labelled e Q v (at_words n u))) where
    room : u.tally.fresh < reference_room
    unfolding labelled
    room = omega (arith, part.fresh_fits)

    one_whole : length (marked_first u n) ≡ 65544
    one_whole = labelled_whole n (own_mark at_term) u.nodes ready.sound.whole_nodes

    module _ (s t f : ℕ) where
      one_writes : Writes l (λ j. held j n P) u (on_to n (own_mark at_term) s t f u)
          (one_on n v u.tally.fresh)
      unfolding labelled
      one_writes = on_writes l (λ j. held j n P) u clean_there n (own_mark at_term) v drawn_there room
          rests.bare (own_small at_term) (own_some at_term)
          (own_told at_term term_below l ∙ place_is) (omega (arith, part.nodes_fit))
          (omega (arith, part.arcs_fit)) own_apart s t f

      one_chain : Around p (after_one u n s t f) at_term at_frame b ks
      unfolding one_node
      one_chain =
          around_lasting p u.nodes _ one_writes.lasting at_term at_frame b ks rests.stands.chain

      -- around what is called there
      one_called : (g : ℕ) → around p g ≡ 0
          → Around p (after_one u n s t f) g (beyond p at_term n at_frame) b ks
      one_called g bare =
          let m = u.tally.fresh in
          let w = marked_first u n in
          let other : (n ≡ m → ⊥) = λ e. omega (arith, e, drawn_there) in
          let kept : (i : ℕ) → i < 8 → (i ≡ 0 → ⊥) → node i (after_one u n s t f) n ≡ node i u.nodes n =
          λ i h k. standing_elsewhere m s t f w i n h (λ e _ _. other e)
          ∙ labelled_elsewhere n (own_mark at_term) u.nodes i n h (λ _ e. k e) in
          let mark_is : label (after_one u n s t f) n ≡ own_mark at_term =
          standing_elsewhere m s t f w 0 n (omega arith) (λ e _ _. other e)
          ∙ labelled_there n _ u.nodes (omega (arith, drawn_there, room)) clean_there.whole_nodes
          (own_small at_term) in
          around_called p (after_one u n s t f) n at_term at_frame g b
          (kept 2 (omega arith) (λ e. omega arith)) (kept 3 (omega arith) (λ e. omega arith))
          (λ e. own_some at_term (sym mark_is ∙ e)) rests.stands.within bare ks one_chain

      one_ends : (a : Address) (at size : ℕ) → at ≡ count - length a → size ≡ length ks + cells Q
          → ((e ≡ ✓ → ⊥) → HoldsControl l p x (after_one u n s t f) u.tally.fresh b Q ks)
          → (e ≡ ✓ → (Q ≡ Ω) × (state (after_one u n s t f) u.tally.fresh ≡ at_end))
          → Ends l p x count n b at_term at_frame ks P u (come_as (labelled e Q v (at_words n u)) a)
          (single e n s at_term t f at size u.tally u.nodes u.track)
      unfolding labelled single Leaves.on one_node one_arc drawn
      one_ends a at size at_is size_is goes_on over =
          let m = u.tally.fresh in
          let up : capped (m + 1) ≡ m + 1 = capped_below (m + 1) (omega (arith, room)) in
          let bare : label (after_one u n s t f) m ≡ 0 =
          standing_elsewhere m s t f _ 0 m (omega arith) (λ e h. absurd (omega arith))
          ∙ bare_later (own_mark at_term) m (omega arith) in
          record {
            matches = record {
              writes = one_writes;
              fresh_is = omega (arith, up);
              event_is = refl;
              reference_is = refl;
              at_is = at_is;
            };
            size_is = size_is;
            chain = one_chain;
            goes_on = goes_on;
            at_Ω = λ h. (over h).0;
            Ω-there = λ h. ((over h).1, bare, bound_below, omega arith, omega arith);
          }

    -- an untouched term comes to stand there
    rests_next : (t f : ℕ) → f < u.tally.fresh → Untouched l p x u.nodes t (around p t) Q
        → Around p (after_one u n resting t f) t f b ks
        → HoldsControl l p x (after_one u n resting t f) u.tally.fresh b Q ks
    rests_next t f below there chain =
        let m = u.tally.fresh in
        let small = untouched_below l p x u.nodes t (around p t) Q there in
        rests_holds l p x _ m b ks Q
        (new_rests l p x (marked_first u n) m t f b ks room one_whole (omega arith) below bound_below Q
        (bare_later (own_mark at_term) m (omega arith)) chain
        (untouched_told l p x u.nodes (marked_first u n) t (around p t) Q there))

  -- what comes of it inside the sequences around it
  module _ (a : Address) (qs : List Awaiting) (y : Stepped) (fits : Fits u y.outcome)
      (tells : TellsBehind l p x u.nodes ks qs) (numbered : Numbered p) (at size : ℕ)
      (at_is : at ≡ count - length a) (size_is : size ≡ length ks + 1) where
    abbrev Comes : Outcome → Type 0
    Comes r = wrapped qs (stepped r a) ≡ some y

    abbrev GoesBy : Done → Type 0
    GoesBy d = Goes l p x count n b P u y (after_settling p at_term at_frame b d)

    ended_goes : (r : Outcome) (d : Done) → Comes r → (r.event ≡ ✓ → r.met ≡ [])
        → Ends l p x count n b at_term at_frame ks P u (come_as r a) d → GoesBy d
    unfolding after_settling
    ended_goes r d come_to none_met ends =
        settled_goes l p x count n b at_term at_frame P u (come_as r a) d y none_met fits ready.sound
        numbered ks qs ends (tells_told l p x u.nodes d.nodes ks qs tells) come_to

    abbrev by_one : Event → ℕ → ℕ → ℕ → Done
    by_one e s t f = single e n s at_term t f at size u.tally u.nodes u.track

    one_fits : (e : Event) (Q : Process) → Comes (labelled e Q v (at_words n u)) → (e ≡ ✓ → Q ≡ Ω)
        → Fits u (labelled e Q v (at_words n u))
    unfolding labelled
    one_fits e Q come_to last =
        fits_part u (come_as (labelled e Q v (at_words n u)) a) y qs come_to (λ h. (last h, refl)) fits

    skip_goes : Comes (labelled ✓ Ω v (at_words n u)) → GoesBy (by_one Tick at_end 0 0)
    unfolding labelled cells
    skip_goes come_to =
        let part = one_fits ✓ Ω come_to (λ _. refl) in
        let there = standing_there u.tally.fresh at_end 0 0 (marked_first u n) (room ✓ Ω part)
        (one_whole ✓ Ω part) (omega arith) (omega arith) (omega arith) in
        ended_goes (labelled ✓ Ω v (at_words n u)) (by_one Tick at_end 0 0) come_to (λ _. refl)
        (one_ends ✓ Ω part at_end 0 0 a at size at_is size_is (λ h. absurd (h refl))
        (λ _. (refl, there.state_is)))

    τ-goes : (Q : Process) (s t f : ℕ) → Comes (labelled τ Q v (at_words n u)) → cells Q ≡ 1
        → (Fits u (labelled τ Q v (at_words n u)) → HoldsControl l p x (after_one u n s t f) u.tally.fresh b Q ks)
        → GoesBy (by_one Tau s t f)
    unfolding labelled
    τ-goes Q s t f come_to cell holds =
        ended_goes (labelled τ Q v (at_words n u)) (by_one Tau s t f) come_to (λ _. refl)
        (one_ends τ Q part s t f a at size at_is (rw cell size_is) (λ _. holds part) (λ h. absurd (never h)))
      where
        never : τ ≡ ✓ → ⊥
        never h = let z : ◌≡◌ {A = ℕ} 0 1 = cc in omega arith

        part : Fits u (labelled τ Q v (at_words n u))
        part = one_fits τ Q come_to (λ h. absurd (never h))

    stop_goes : Comes (labelled τ ⊥' v (at_words n u)) → GoesBy (by_one Tau dead at_term at_frame)
    unfolding cells
    stop_goes come_to = τ-goes ⊥' dead at_term at_frame come_to refl
        (λ part.
        let m = u.tally.fresh in
        let w = marked_first u n in
        let whole = one_whole τ ⊥' part in
        let small : at_term < 65536 = omega (arith, term_below) in
        let few : at_frame < 65536 = omega (arith, frame_below, room τ ⊥' part) in (
          new_stands l p x w m at_term at_frame b ks (room τ ⊥' part) whole small frame_below bound_below dead
              (omega arith) (one_chain τ ⊥' part dead at_term at_frame),
          (standing_there m dead at_term at_frame w (room τ ⊥' part) whole (omega arith) small few).state_is,
        ))

    -- of a choice, and of a call
    next_goes : (Q : Process) (g : ℕ) → Comes (labelled τ Q v (at_words n u)) → around p g ≡ around p at_term
        → Untouched l p x u.nodes g (around p g) Q → GoesBy (by_one Tau resting g at_frame)
    next_goes Q g come_to same there =
        τ-goes Q resting g at_frame come_to (single_cell l p x u.nodes g (around p g) Q there)
        (λ part. rests_next τ Q part g at_frame frame_below there
        (around_term p _ at_term g at_frame b ks (sym same) (one_chain τ Q part resting g at_frame)))

    called_goes : (Q : Process) (g : ℕ) → Comes (labelled τ Q v (at_words n u)) → around p g ≡ 0
        → Untouched l p x u.nodes g (around p g) Q
        → GoesBy (by_one Tau resting g (beyond p at_term n at_frame))
    called_goes Q g come_to bare there =
        let f = beyond p at_term n at_frame in
        τ-goes Q resting g f come_to (single_cell l p x u.nodes g (around p g) Q there)
        (λ part. rests_next τ Q part g f
        (omega (arith, beyond_most p at_term n at_frame rests.stands.framed, drawn_there)) there
        (one_called τ Q part resting g f g bare))

    -- a prefix: two labels, two arcs and an event node
    module _ (e : ℕ) (Q : Process) (come_to : Comes (prefixed e Q v (at_words n u)))
        (event_place : l.event at_term ≡ below v 1)
        (there : Untouched l p x u.nodes (suc at_term) (around p at_term) Q) where
      part : Fits u (prefixed e Q v (at_words n u))
      unfolding prefixed
      part = fits_part u (come_as (prefixed e Q v (at_words n u)) a) y qs come_to
          (λ h. let z : ◌≡◌ {A = ℕ} 0 1 = cc in absurd (omega arith)) fits

      -- the words behind the first arc, and behind the second
      abbrev first_to : Words
      first_to = arc_to n (label_to n (event_mark at_term) u)

      abbrev second_to : Words
      second_to = on_to u.tally.fresh (own_mark at_term) resting (suc at_term) at_frame first_to

      first_fresh : first_to.tally.fresh ≡ suc u.tally.fresh
      unfolding prefixed one_node one_arc drawn
      first_fresh = omega (arith, capped_below (u.tally.fresh + 1) (omega (arith, part.fresh_fits)))

      first_writes : Writes l (λ j. held j n P) u first_to (one_on n (below v 1) u.tally.fresh)
      unfolding prefixed
      first_writes = on_arc_writes l (λ j. held j n P) u clean_there n (event_mark at_term) (below v 1)
          drawn_there (omega (arith, part.fresh_fits)) rests.bare (event_small at_term)
          (event_some at_term) (event_told at_term term_below l ∙ event_place)
          (omega (arith, part.nodes_fit)) (omega (arith, part.arcs_fit)) own_apart

      second_writes : Writes l (λ j. Marked.one j u.tally.fresh) first_to second_to
          (one_on u.tally.fresh v first_to.tally.fresh)
      unfolding prefixed
      second_writes =
          let m = u.tally.fresh in
          let k = first_writes in
          on_writes l (λ j. Marked.one j m) first_to (clean_after l _ u first_to _ clean_there k) m
          (own_mark at_term) v (omega (arith, first_fresh)) (omega (arith, first_fresh, part.fresh_fits))
          (bare_later (event_mark at_term) m (omega arith)) (own_small at_term) (own_some at_term)
          (own_told at_term term_below l ∙ place_is) (omega (arith, k.nodes_counted, part.nodes_fit))
          (omega (arith, k.arcs_counted, part.arcs_fit)) (λ j h z e. omega (arith, z, one_same j m e))
          resting (suc at_term) at_frame

      both_writes : Writes l (λ j. held j n P) u second_to
          (followed (one_on n (below v 1) u.tally.fresh)
          (one_on u.tally.fresh v first_to.tally.fresh))
      both_writes = behind l (λ j. held j n P) _ u first_to second_to _ _
          (λ j h z. one_other j u.tally.fresh (λ e. omega (arith, e, h))) first_writes second_writes

      third_writes : Writes l (λ j. 0) second_to (keep_to n second_to) (one_kept n)
      unfolding prefixed
      third_writes =
          let k = both_writes in
          keep_writes l (λ j. 0) second_to (clean_after l _ u second_to _ clean_there k) n
          (omega (arith, drawn_there, part.fresh_fits)) (omega (arith, k.arcs_counted, part.arcs_fit))
          (omega (arith, k.meetings_counted, part.meetings_fit))
          (omega (arith, k.met_counted, part.met_fit))

      prefix_writes : Writes l (λ j. held j n P) u (keep_to n second_to) (added (prefixed e Q v (at_words n u)))
      unfolding prefixed
      prefix_writes =
          let m = u.tally.fresh in
          subst
          (λ i. Writes l (λ j. held j n P) u (keep_to n second_to) (record {
            labels = record { reference = n; place = below v 1 } ∷ record { reference = m; place = v } ∷ [];
            arcs = pair n m ∷ pair m i ∷ [];
            meetings = [];
            met = n ∷ [];
          }))
          first_fresh
          (behind l (λ j. held j n P) (λ j. 0) u second_to (keep_to n second_to) _ _ (λ j h z. refl) both_writes
          third_writes)

      both_chain : Around p second_to.nodes at_term at_frame b ks
      both_chain =
          around_lasting p u.nodes _ both_writes.lasting at_term at_frame b ks rests.stands.chain

      prefix_holds : HoldsControl l p x second_to.nodes (suc u.tally.fresh) b Q ks
      unfolding prefixed one_node
      prefix_holds =
          let m = u.tally.fresh in
          let m' = first_to.tally.fresh in
          let g = suc at_term in
          let w = Marks.labelled m (own_mark at_term) first_to.nodes in
          let same = untouched_around l p x u.nodes g (around p at_term) Q there in
          let whole = labelled_whole n (event_mark at_term) u.nodes clean_there.whole_nodes in
          subst (λ i. HoldsControl l p x second_to.nodes i b Q ks) first_fresh
          (rests_holds l p x second_to.nodes m' b ks Q
          (new_rests l p x w m' g at_frame b ks (omega (arith, first_fresh, part.fresh_fits))
          (labelled_whole m (own_mark at_term) first_to.nodes whole) (omega (arith, term_below))
          (omega (arith, first_fresh, frame_below)) (omega (arith, first_fresh, bound_below)) Q
          (labelled_elsewhere m (own_mark at_term) first_to.nodes 0 m' (omega arith)
          (λ e _. omega (arith, e, first_fresh))
          ∙ bare_later (event_mark at_term) m' (omega (arith, first_fresh)))
          (around_term p second_to.nodes at_term g at_frame b ks (sym same) both_chain)
          (rw same (untouched_told l p x u.nodes w g (around p at_term) Q there))))

      prefix_goes : e < event_room
          → GoesBy (Leaves.prefix n at_term at_frame e at size u.tally u.nodes u.track)
      unfolding prefixed Leaves.prefix Leaves.on one_node one_arc one_met drawn
      prefix_goes few =
          let next = capped_below (at_term + 1) (omega (arith, term_below)) in
          let is_next : capped (at_term + 1) ≡ suc at_term = omega (arith, next) in
          let up = capped_below (first_to.tally.fresh + 1) (omega (arith, first_fresh, part.fresh_fits)) in
          let d = Leaves.prefix n at_term at_frame e at size u.tally u.nodes u.track in
          ended_goes (prefixed e Q v (at_words n u)) d come_to
          (λ h. let z : ◌≡◌ {A = ℕ} 0 1 = cc in absurd (omega arith))
          (rw is_next (record {
            matches = record {
              writes = prefix_writes;
              fresh_is = omega (arith, up, first_fresh);
              event_is = ap Visible (omega arith);
              reference_is = first_fresh;
              at_is = at_is;
            };
            size_is = rw (single_cell l p x u.nodes (suc at_term) (around p at_term) Q there) size_is;
            chain = both_chain;
            goes_on = λ _. prefix_holds;
            at_Ω = λ h. let z : ◌≡◌ {A = ℕ} 0 1 = cc in absurd (omega arith);
            Ω-there = λ h. let z : ◌≡◌ {A = ℕ} 0 1 = cc in absurd (omega arith);
          }))

called_untouched : (l : Layout) (p x w : List ℕ) (ts : List Term) → Plan.HoldsTable l p x ts → (m : ℕ)
    → (get_elem? ts m ≡ none → ⊥) → Untouched l p x w (l.root m) 0 (rhs ts m)
unfolding right_side
called_untouched l p x w ts plan m there = go (get_elem? ts m) refl
  where
    go : (o : Option Term) → get_elem? ts m ≡ o → Untouched l p x w (l.root m) 0 (right_side m o)
    go none e = absurd (there e)
    go (some t) e = let h = plan m t e in record { tree = t; is = rw h.0; planned = h.1 }

-- a leaf, a prefix or an internal choice
abbrev pub Low : Process → Type 0
Low (leaf v f) = Unit {0}
Low (prefix v e P) = Unit {0}
Low (internal v P Q) = Unit {0}
Low (split v k m n P Q) = ⊥
Low (sequence v c P Q) = ⊥
Low Ω = ⊥
Low ⊥' = ⊥

module _ (l : Layout) (p x : List ℕ) (count : ℕ) (ds : List ℕ) (ts : List Term) (n b : ℕ) (ks : List ℕ)
    (qs : List Awaiting) (u : Words) (at size : ℕ) (y : Stepped) (plan : Plan.HoldsTable l p x ts)
    (numbered : Numbered p) (tells : TellsBehind l p x u.nodes ks qs) (size_is : size ≡ length ks + 1)
    (fits : Fits u y.outcome) where
  abbrev t : ℕ
  t = term u.nodes n

  formed : (P : Process) → Rests l p x u.nodes n b ks P → Formed l p x u.nodes t (around p t) P
  formed P r = untouched_formed l p x u.nodes t (around p t) P r.untouched_there

  not_none : wrapped qs none ≡ some y → ⊥
  not_none e = let z : ◌≡◌ {A = ℕ} 0 1 = cc (wrapped_none qs) in omega arith

  -- the side that the digit of an internal choice takes, R at number i
  chosen_goes : (v : Place) (P Q R : Process) (i : ℕ) (a : Address)
      → Ready l p x count n b (internal v P Q) ks u → From ds count (suc at) a → capped (at + 1) ≡ suc at
      → taken (digit_at ds count at) (capped (t + 1)) (second p t) ≡ i
      → Untouched l p x u.nodes i (around p t) R
      → wrapped qs (stepped (labelled τ R v (at_words n u)) a) ≡ some y
      → Goes l p x count n b (internal v P Q) u y
      (Leaves.leaf p n b at size (digit_at ds count at) u.tally u.nodes u.track)
  unfolding held Leaves.leaf after_settling settled by_event single
  chosen_goes v P Q R i a ready from next to_i there come_to =
      let form = formed (internal v P Q) ready.holds in
      let same = untouched_around l p x u.nodes i (around p t) R there in
      rw (form.1, next, to_i)
      (next_goes l p x count n b (internal v P Q) ks u ready ready.holds (λ j. refl) v form.0 a qs y fits
      tells numbered (suc at) size (sym (from_at ds count (suc at) a from)) size_is R i come_to same
      (rw same there))

  pub leaf_goes : (P : Process) (a : Address) → Low P → Calls ts P → Ready l p x count n b P ks u
      → From ds count at a → wrapped qs (step ts P (at_words n u) a) ≡ some y
      → Goes l p x count n b P u y
      (Leaves.leaf p n b at size (digit_at ds count at) u.tally u.nodes u.track)
  unfolding held leaf_kind step number taken Leaves.leaf after_settling settled by_event single Leaves.prefix
  leaf_goes (leaf v (call m)) a low calls ready from come_to =
      let form = formed (leaf v (call m)) ready.holds in
      let there = called_untouched l p x u.nodes ts plan m calls in
      let bare = untouched_around l p x u.nodes (l.root m) 0 (rhs ts m) there in
      rw (form.1, form.2)
      (called_goes l p x count n b (leaf v (call m)) ks u ready ready.holds (λ j. refl) v form.0 a qs y
      fits tells numbered at size (sym (from_at ds count at a from)) size_is (rhs ts m) (l.root m) come_to bare
      (rw bare there))
  leaf_goes (leaf v SKIP) a low calls ready from come_to =
      let form = formed (leaf v SKIP) ready.holds in
      rw form.1
      (skip_goes l p x count n b (leaf v SKIP) ks u ready ready.holds (λ j. refl) v form.0 a qs y fits
      tells numbered at size (sym (from_at ds count at a from)) size_is come_to)
  leaf_goes (leaf v STOP) a low calls ready from come_to =
      let form = formed (leaf v STOP) ready.holds in
      rw form.1
      (stop_goes l p x count n b (leaf v STOP) ks u ready ready.holds (λ j. refl) v form.0 a qs y fits
      tells numbered at size (sym (from_at ds count at a from)) size_is come_to)
  leaf_goes (prefix v e Q) a low calls ready from come_to =
      let form = formed (prefix v e Q) ready.holds in
      rw (form.1, form.2)
      (prefix_goes l p x count n b (prefix v e Q) ks u ready ready.holds (λ j. refl) v form.0 a qs y fits
      tells numbered at size (sym (from_at ds count at a from)) size_is e Q come_to form.4 form.5
      form.3)
  leaf_goes (internal v P Q) [] low calls ready from come_to = absurd (not_none come_to)
  leaf_goes (internal v P Q) (one ∷ a) low calls ready from come_to =
      let r = ready.holds in
      let small = untouched_below l p x u.nodes t (around p t) (internal v P Q) r.untouched_there in
      let to_left : taken (digit_at ds count at) (capped (t + 1)) (second p t) ≡ suc t =
      rw from.0 (omega (arith, capped_below (t + 1) (omega arith))) in
      chosen_goes v P Q P (suc t) a ready from.1 (next_at ds count at one from.0) to_left
      (formed (internal v P Q) r).2 come_to
  leaf_goes (internal v P Q) (two ∷ a) low calls ready from come_to =
      chosen_goes v P Q Q (second p t) a ready from.1 (next_at ds count at two from.0) (rw from.0)
      (formed (internal v P Q) ready.holds).3 come_to
  leaf_goes (internal v P Q) (three ∷ a) low calls ready from come_to = absurd (not_none come_to)
  leaf_goes (internal v P Q) (four ∷ a) low calls ready from come_to = absurd (not_none come_to)
  leaf_goes (split v k i j P Q) a low calls ready from come_to = absurd low
  leaf_goes (sequence v c P Q) a low calls ready from come_to = absurd low
  leaf_goes Ω a low calls ready from come_to = absurd low
  leaf_goes ⊥' a low calls ready from come_to = absurd low
