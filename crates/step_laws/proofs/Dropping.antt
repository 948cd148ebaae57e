-- A choice whose side shows a visible event or ✓ is dropped for the side: what the side came to has the
-- choice's sequences around it; a visible event does not end, since what stands behind a prefix is a term,
-- and a ✓ leaves Ω at a drawn reference without a label. Then what one side's step makes of its split,
-- whichever. Assumes nothing.
use Rattle.std.proofs.Common.{ℕ, suc, ◌+◌, ◌-◌, ◌≤◌, ◌≡◌, refl, sym, ap, subst, ◌∙◌, Bool, true, false, List}
use Rattle.std.proofs.Common.{[], arith, length, eqb, eqb-true}
use Rattle.std.proofs.Math.Option.{Option, none, some, none-ne-some, some-injective}
use Rattle.lines.specs.Line.{choose}
use Rattle.sets.specs.EventSet.{member}
use Rattle.terms.specs.Term.{Term, external, parallel}
use Rattle.terms.specs.Term as Term
use Rattle.places.specs.Place.{Place}
use Rattle.rules.specs.declared.Event.{Event}
use Rattle.rules.specs.declared.Event.TheVariants.{Tau as τ, Tick as ✓, Visible as visible}
use Rattle.rules.specs.Process.{Address, Split, choice, together, Process, leaf, prefix, internal, split}
use Rattle.rules.specs.Process.{sequence, Ω, ⊥', below, joined, untouched, cells}
use Rattle.rules.specs.Track.{At, Outcome, labelled, prefixed, first_eval, around, jointly, carried, started}
use Rattle.rules.specs.Track.{ended}
use Rattle.rules.specs.Tracking.{Tracks, Visible, process_call, prefixing, skip, stop, internal_choice_1}
use Rattle.rules.specs.Tracking.{internal_choice_2, external_choice_1, external_choice_2, external_choice_3}
use Rattle.rules.specs.Tracking.{external_choice_4, sequential_composition_1, sequential_composition_2}
use Rattle.rules.specs.Tracking.{synchronized_parallelism_1, synchronized_parallelism_2}
use Rattle.rules.specs.Tracking.{synchronized_parallelism_3, synchronized_parallelism_4}
use Rattle.rules.specs.Step.{Stepped, one_side, by_side}
use Rattle.rules.proofs.Drawn.{untouched_on}
use Rattle.rules.proofs.Stripped.{ends_at_Ω}
use Rattle.plans.specs.words.Plan.{Layout}
use Rattle.control.specs.words.Words.{node}
use Rattle.control.specs.words.Control.{label, term, frame, split_kind, Untouched, HoldsControl}
use Rattle.control.proofs.Framed.{around_lasting}
use Rattle.control.proofs.Chains.{holds_dropped}
use Rattle.control.specs.words.Sums.{capped}
use Rattle.weights.specs.code.Rules.{stays, shown}
use Rattle.sides.specs.code.Sides as Sides
use Rattle.leaves.specs.code.Leaves.{Done, with_words, come}
use Rattle.control.specs.words.Views.{marked, place_told, first_of}
use Rattle.step_laws.proofs.TrackLoops.{capped_below}
use Rattle.step_laws.proofs.NodeViews.{marked_none}
use Rattle.step_laws.proofs.Writing.{Words}
use Rattle.step_laws.proofs.Going.{at_words, Ends}
use Rattle.step_laws.proofs.Drawing.{side_fresh}
use Rattle.step_laws.proofs.Opening.{Side, number, frame_in, split_by}
use Rattle.step_laws.proofs.Entering.{side_cells}
use Rattle.step_laws.proofs.Starting.{start_derived, start_drawn, start_draws, start_enters}
use Rattle.step_laws.proofs.Starting.{start_ready}
use Rattle.step_laws.proofs.OneSide.{Closes, other_cells, Turns, whole, was_splits, last_term}
use Rattle.step_laws.proofs.OneSide.{still_kind, whole_writes, one_code, stayed, stays_closes}

-- what a prefix, alone or below choices, leads to is not Ω
abbrev Lively : Process → Type 0
Lively (leaf w l) = Unit {0}
Lively (prefix w e P) = P ≡ Ω → ⊥
Lively (internal w P Q) = Unit {0}
Lively (split w choice m n P Q) = Lively P × Lively Q
Lively (split w (together x) m n P Q) = Unit {0}
Lively (sequence w b P Q) = Unit {0}
Lively Ω = Unit {0}
Lively ⊥' = Unit {0}

tree_lively : (v : Place) (t : Term) → Lively (untouched v t)
unfolding untouched joined
tree_lively v (Term.leaf l) = tt
tree_lively v (Term.prefix e t) = untouched_on (below v 2) t
tree_lively v (Term.binary Term.internal t u) = tt
tree_lively v (Term.binary external t u) = (tree_lively (below v 1) t, tree_lively (below v 2) u)
tree_lively v (Term.binary Term.sequence t u) = tt
tree_lively v (Term.binary (parallel x) t u) = tt

module _ (l : Layout) (p x w : List ℕ) where
  untouched_lively : (i o : ℕ) (P : Process) → Untouched l p x w i o P → Lively P
  untouched_lively i o P u = subst Lively (sym u.is) (tree_lively (l.place i) u.tree)

  holds_lively : (n b : ℕ) (P : Process) (ks : List ℕ) → HoldsControl l p x w n b P ks → Lively P
  holds_lively n b (leaf v f) ks h = tt
  holds_lively n b (prefix v e P) ks h = untouched_lively _ _ _ h.untouched_there
  holds_lively n b (internal v P Q) ks h = tt
  holds_lively n b (split v choice none none P Q) ks h = untouched_lively _ _ _ h.untouched_there
  holds_lively n b (split v choice (some i) none P Q) ks h =
      (holds_lively i _ P [] h.3, untouched_lively _ _ Q h.4)
  holds_lively n b (split v choice none (some j) P Q) ks h =
      (untouched_lively _ _ P h.3, holds_lively j _ Q [] h.4)
  holds_lively n b (split v choice (some i) (some j) P Q) ks h =
      (holds_lively i _ P [] h.3, holds_lively j _ Q [] h.4)
  holds_lively n b (split v (together z) i j P Q) ks h = tt
  holds_lively n b (sequence v c P Q) ks h = tt
  holds_lively n b Ω ks h = tt
  holds_lively n b ⊥' ks h = tt

-- a visible event leads to no Ω
visible_lives : {ts : List Term} {a : Address} {P : Process} {s : At} {r : Outcome} (e : ℕ)
    → Tracks ts a P s r → Lively P
    → r.event ≡ visible e → r.process ≡ Ω → ⊥
unfolding labelled prefixed around jointly carried started ended
visible_lives e process_call h q z = let c : ◌≡◌ {A = ℕ} 0 1 = cc in omega arith
visible_lives e prefixing h q z = h z
visible_lives e skip h q z = let c : ◌≡◌ {A = ℕ} 0 1 = cc in omega arith
visible_lives e stop h q z = let c : ◌≡◌ {A = ℕ} 0 1 = cc in omega arith
visible_lives e internal_choice_1 h q z = let c : ◌≡◌ {A = ℕ} 0 1 = cc in omega arith
visible_lives e internal_choice_2 h q z = let c : ◌≡◌ {A = ℕ} 0 1 = cc in omega arith
visible_lives e (external_choice_1 d t) h q z = let c : ◌≡◌ {A = ℕ} 0 1 = cc in omega arith
visible_lives e (external_choice_2 d t) h q z = let c : ◌≡◌ {A = ℕ} 0 1 = cc in omega arith
visible_lives e (external_choice_3 d t) h q z = visible_lives e d h.0 q z
visible_lives e (external_choice_4 d t) h q z = visible_lives e d h.1 q z
visible_lives e (sequential_composition_1 d t) h q z = let c : ◌≡◌ {A = ℕ} 0 1 = cc in omega arith
visible_lives e (sequential_composition_2 d t) h q z = let c : ◌≡◌ {A = ℕ} 0 1 = cc in omega arith
visible_lives e (synchronized_parallelism_1 d t) h q z = let c : ◌≡◌ {A = ℕ} 0 1 = cc in omega arith
visible_lives e (synchronized_parallelism_2 d t) h q z = let c : ◌≡◌ {A = ℕ} 0 1 = cc in omega arith
visible_lives e (synchronized_parallelism_3 d d' t t' i c) h q z = let c : ◌≡◌ {A = ℕ} 0 1 = cc in omega arith
visible_lives e (synchronized_parallelism_4 t t') h q z = let c : ◌≡◌ {A = ℕ} 0 1 = cc in omega arith

-- a choice does not stay on what is seen
seen_leaves : (e : Event) → Visible e → stays (split_kind choice) e ≡ false
unfolding stays split_kind
seen_leaves τ h = absurd h
seen_leaves ✓ h = refl
seen_leaves (visible e) h = refl

-- a reference with no place has no label
marked_bare : (l : Layout) (w : List ℕ) (j : ℕ) → marked l w j ≡ none → label w j ≡ 0
unfolding marked
marked_bare l w j e = go (eqb (label w j) 0) refl e
  where
    go : (c : Bool) → eqb (label w j) 0 ≡ c → choose c none (some (place_told l (label w j))) ≡ none
        → label w j ≡ 0
    go true q z = eqb-true (label w j) 0 q
    go false q z = absurd (none-ne-some _ (sym z))

module _ {l : Layout} {p x : List ℕ} {count : ℕ} {ts : List Term} {s : Side} {n b : ℕ} {ks : List ℕ} {v : Place}
    {m o : Option ℕ} {P Q : Process} {c : ℕ} {a : Address} {u : Words} {y : Stepped} {d : Done}
    (h : Turns l p x count ts s n b ks v choice m o P Q c a u y d) (seen : Visible y.outcome.event) where
  abbrev r : Outcome
  r = y.outcome

  -- a visible event has not ended
  dropped_lives : (r.event ≡ ✓ → ⊥) → r.process ≡ Ω → ⊥
  dropped_lives n✓ ends = go r.event refl n✓ seen
    where
      go : (e : Event) → r.event ≡ e → (e ≡ ✓ → ⊥) → Visible e → ⊥
      go τ q n✓ seen = seen
      go ✓ q n✓ seen = n✓ refl
      go (visible e) q n✓ seen =
          visible_lives e (start_derived h.starts).2
          (holds_lively l p x _ _ _ P [] (start_ready h.starts).holds) q ends

  -- an Ω stands at a reference of its own
  dropped_bare : r.event ≡ ✓ → label d.nodes r.reference ≡ 0
  unfolding first_of
  dropped_bare q =
      let on = start_enters h.starts in
      let late = (start_draws h.starts).last q in
      let clean = on.entry.sound.clean r.reference 0 (rw on.fresh_is late.0) (omega arith) in
      marked_bare l d.nodes r.reference
      (h.goes.matches.writes.labels_are r.reference ∙ rw (marked_none l _ r.reference clean, late.1))

  -- the choice is dropped
  abbrev dropped : Event → Stepped
  dropped e = record {
    outcome = around (first_eval m (some c) v (at_words n u)) r e r.process r.reference;
    unused = y.unused;
  }

  module _ (size : ℕ) (is_size : size ≡ length ks + suc (cells P + cells Q)) (few : size ≤ 4096) where
    abbrev dropped_size : ℕ
    dropped_size = size - node (5 + number s) u.nodes n - node (8 - number s)
        u.nodes n - 1 + d.taken.size

    abbrev dropped_done : Done
    dropped_done = with_words
        (come r.event d.taken.reference (capped dropped_size) d.taken.at d.taken.tally)
        d.nodes d.track

    drops_ends : Ends l p x count n b (term u.nodes n) (frame u.nodes n) ks (whole h) u
        (dropped r.event) dropped_done
    unfolding around
    drops_ends =
        let was = was_splits h in
        let lasts = last_term h in
        let own_cells = side_cells l p x u.nodes s n b ks v choice P Q was in
        let their_cells = other_cells l p x u.nodes s n b ks v choice P Q was in
        let sum : dropped_size ≡ length ks + cells r.process =
        omega (arith, is_size, own_cells, their_cells, h.goes.size_is) in
        let chain = around_lasting p u.nodes d.nodes (whole_writes h).lasting _ _ b ks
        was.stands.chain in
        record {
          matches = record {
            writes = whole_writes h;
            fresh_is = h.goes.matches.fresh_is;
            event_is = refl;
            reference_is = h.goes.matches.reference_is;
            at_is = h.goes.matches.at_is;
          };
          size_is = capped_below _ (omega (arith, sum, is_size, few, h.starts.cells_fit)) ∙ sum;
          chain = chain;
          goes_on = λ n✓.
              holds_dropped l p x d.nodes n (term u.nodes n) (frame u.nodes n) b lasts.term_lasts
              lasts.frame_lasts (λ e. was.marked (sym lasts.label_lasts ∙ e))
              was.stands.within ks chain
              r.reference r.process [] (λ z. absurd (dropped_lives n✓ z)) h.goes.holds;
          at_Ω = λ q. ends_at_Ω (start_derived h.starts).2 q;
          Ω-there = λ q.
              let last = (start_draws h.starts).last q in
              let far : u.tally.fresh ≤ r.reference =
              omega (arith, last.0, side_fresh m (some c) v (at_words n u) P) in (
                (subst (λ R. HoldsControl l p x d.nodes r.reference (frame_in p u.nodes choice n) R [])
                    (ends_at_Ω (start_derived h.starts).2 q) h.goes.holds).1,
                dropped_bare q,
                omega (arith, was.stands.within, start_drawn h.starts, far),
                far,
                (start_draws h.starts).stands,
              );
        }

    pub drops_closes : Closes l p x count n b ks (whole h) u (dropped r.event) (one_code h size)
    unfolding Sides.one
    drops_closes = record {
      done = dropped_done;
      ends = drops_ends;
      is = rw (
        still_kind h,
        h.goes.matches.event_is,
        seen_leaves r.event seen,
        (last_term h).term_lasts,
        (last_term h).frame_lasts,
      );
    }

closes_as : {l : Layout} {p x : List ℕ} {count n b : ℕ} {ks : List ℕ} {R : Process} {u : Words} {y : Stepped}
    {code : Done}
    (z : Stepped) → some y ≡ some z → Closes l p x count n b ks R u y code
    → Closes l p x count n b ks R u z code
closes_as {l = l} {p = p} {x = x} {count = count} {n = n} {b = b} {ks = ks} {R = R} {u = u} {y = y} {code =
    code} z e k =
    subst (λ q. Closes l p x count n b ks R u q code) (some-injective y z e) k

-- what one side's step makes of its split, by the rules
abbrev made_by : Side → ℕ → Place → Split → Option ℕ → Option ℕ → Process → ℕ → Words → Stepped → Event
    → Option Stepped
made_by s n v k m o Q c u y e =
    one_side k e (first_eval m (some c) v (at_words n u)) (λ q R. split_by s v k q o R Q) n y.outcome
    y.unused

-- and by the words
module _ {l : Layout} {p x : List ℕ} {count : ℕ} {ts : List Term} {s : Side} {n b : ℕ} {ks : List ℕ} {v : Place}
    {m o : Option ℕ} {P Q : Process} {c : ℕ} {a : Address} {u : Words} {y : Stepped} {d : Done} where
  choice_goes : (h : Turns l p x count ts s n b ks v choice m o P Q c a u y d) (size : ℕ)
      → size ≡ length ks + suc (cells P + cells Q) → size ≤ 4096 → (z : Stepped) (e : Event)
      → y.outcome.event ≡ e
      → made_by s n v choice m o Q c u y e ≡ some z → Closes l p x count n b ks (whole h) u z (one_code h size)
  unfolding one_side stays shown split_kind
  choice_goes h size is_size few z τ e g = closes_as z g
      (stays_closes h size is_size few τ (rw e) (rw e) (λ q. let c : ◌≡◌ {A = ℕ} 0 1 = cc in omega arith))
  choice_goes h size is_size few z ✓ e g =
      let seen : Visible y.outcome.event = rw e tt in
      closes_as z (ap (λ q. some (dropped h seen q)) e ∙ g) (drops_closes h seen size is_size few)
  choice_goes h size is_size few z (visible i) e g =
      let seen : Visible y.outcome.event = rw e tt in
      closes_as z (ap (λ q. some (dropped h seen q)) e ∙ g) (drops_closes h seen size is_size few)

  parallel_goes : (f : ℕ) (h : Turns l p x count ts s n b ks v (together f) m o P Q c a u y d) (size : ℕ)
      → size ≡ length ks + suc (cells P + cells Q) → size ≤ 4096 → (z : Stepped) (e : Event)
      → y.outcome.event ≡ e
      → made_by s n v (together f) m o Q c u y e ≡ some z → Closes l p x count n b ks (whole h) u z
      (one_code h size)
  unfolding one_side stays shown split_kind
  parallel_goes f h size is_size few z τ e g = closes_as z g
      (stays_closes h size is_size few τ (rw e) (rw e) (λ q. let c : ◌≡◌ {A = ℕ} 0 1 = cc in omega arith))
  parallel_goes f h size is_size few z ✓ e g = closes_as z g
      (stays_closes h size is_size few τ (rw e) (rw e) (λ q. let c : ◌≡◌ {A = ℕ} 0 1 = cc in omega arith))
  parallel_goes f h size is_size few z (visible i) e g = go (member i f) g
    where
      go : (t : Bool) → choose t none (some (stayed h (visible i))) ≡ some z
          → Closes l p x count n b ks (whole h) u z (one_code h size)
      go true q = absurd (none-ne-some z q)
      go false q = closes_as z q
          (stays_closes h size is_size few (visible i) (rw e) (rw e) (λ q. let c : ◌≡◌ {A = ℕ} 0 1 =
          cc in omega arith))

  pub one_goes : (k : Split) (h : Turns l p x count ts s n b ks v k m o P Q c a u y d) (size : ℕ)
      → size ≡ length ks + suc (cells P + cells Q) → size ≤ 4096 → (z : Stepped)
      → by_side k (first_eval m (some c) v (at_words n u)) (λ q R. split_by s v k q o R Q) n (some y) ≡ some z
      → Closes l p x count n b ks (whole h) u z (one_code h size)
  unfolding by_side
  one_goes choice h size is_size few z g = choice_goes h size is_size few z y.outcome.event refl g
  one_goes (together f) h size is_size few z g = parallel_goes f h size is_size few z y.outcome.event refl g
