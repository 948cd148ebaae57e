-- What stands in a part that words hold is what is told, and so are its sides. A term goes by induction along the plan
-- that holds it, a sequence at a time, where the levels left reach past the longest path; a control by induction along
-- the words that hold it, under all sequences around it. An untouched term goes by its plan; of an entered choice or
-- parallel the words tell both sides, which have fewer cells. Assumes nothing.
use Rattle.std.proofs.Common.{ℕ, suc, ◌+◌, ◌-◌, ◌≤◌, ◌<◌, ◌≡◌, refl, ap, sym, ◌∙◌, true, false, List, []}
use Rattle.std.proofs.Common.{◌∷◌, arith, add-one, length}
use Rattle.std.proofs.Math.Option.{Option, none, some}
use Rattle.frames.specs.TableFrame.{path_room}
use Rattle.terms.specs.Term.{Leaf, call, SKIP, STOP, Operator, external, parallel, Term, Shallow, leaf_kind}
use Rattle.terms.specs.Term.{operator_kind}
use Rattle.terms.specs.Term as Term
use Rattle.places.specs.Place.{Place}
use Rattle.rules.specs.Process.{Process, leaf, prefix, internal, split, sequence, Ω, ⊥', Split, joined}
use Rattle.rules.specs.Process.{untouched, cells}
use Rattle.rules.specs.Run.{cell_room}
use Rattle.plans.specs.words.Plan.{Layout, kind, second, Planned, first_around, second_around}
use Rattle.control.specs.words.Control.{state, term, first, second_side, Untouched}
use Rattle.control.specs.words.Control.{Rests, Splits, HoldsControl}
use Rattle.offers.specs.code.Following.{first_of, levels}
use Rattle.offers.specs.words.Told.{Low, waits, stepped}
use Rattle.offers.proofs.Returns.{first_in}
use Rattle.offers.proofs.Untouched.{in_plan, some_kind, planned_shallow}
use Rattle.offers.proofs.Standing.{some_split, bound_told, beyond_bound}
use Rattle.parts.specs.Parts.{standing, entered}
use Rattle.parts.specs.declared.Part.{Part}
use Rattle.parts.specs.declared.Sides.{Sides}
use Rattle.parts.specs.declared.Standing.{Standing}
use Rattle.parts.specs.declared.Standing.TheVariants.{Ended, Dead}
use Rattle.parts.specs.code.Parts.{unsequenced, by_kind, of_term, both_waiting, subterms, by_state}
use Rattle.parts.specs.code.Parts.{waiting, stepped_sides, standing_at, sides_at}
use Rattle.parts.specs.code.Parts as code
use Rattle.parts.specs.words.Held.{side_reference, Holds, TellsStanding, IsSide, TellsSides, StandingTold}
use Rattle.parts.specs.words.Held.{SidesTold}
use Rattle.parts.proofs.Returns.{passed_last, passed_one, stands_waiting, stands_there, divides_waiting}
use Rattle.parts.proofs.Returns.{divides_there}

leaf_other : (q : Leaf) → leaf_kind q ≡ 5 → ⊥
unfolding leaf_kind
leaf_other (call d) h = omega arith
leaf_other SKIP h = omega arith
leaf_other STOP h = omega arith

module _ (l : Layout) (p x w : List ℕ) where
  -- what stands there is told by one answer, and its sides by another
  abbrev Tells : Standing → Sides → Process → Type 0
  Tells r s P = TellsStanding l r P × TellsSides l p x w s P

  -- a term by its kind, and its subterms as sides
  abbrev TermTells : ℕ → Process → Type 0
  TermTells i P = Tells (by_kind (kind p i) i) (both_waiting p i) P

  leaf_tells : (q : Leaf) (i : ℕ) → kind p i ≡ leaf_kind q → TermTells i (leaf (l.place i) q)
  unfolding by_kind leaf_kind
  leaf_tells (call d) i h = ((i, rw h, refl), tt)
  leaf_tells SKIP i h = ((i, rw h, refl), tt)
  leaf_tells STOP i h = ((i, rw h, refl), tt)

  -- a subterm that no sequence is around, as a side
  subterm_side : (t : Term) (i j : ℕ) (v : Place) → i ≡ j → l.place j ≡ v → Planned l p x j 0 t
      → IsSide l p x w (waiting i) none (untouched v t)
  unfolding side_reference
  subterm_side t i j v e there h =
      (refl, waits refl (rw e record { tree = t; is = ap (λ (u : Place). untouched u t) (sym there); planned = h }))

  -- the first subterm of a binary term
  first_there : (q : Operator) (t u : Term) (i o : ℕ) → Planned l p x i o (Term.binary q t u) → first_of i ≡ suc i
  first_there q t u i o h =
      let there = in_plan p i (omega (arith, h.0, some_kind q)) in sym (first_in i there) ∙ add-one i

  -- what stands in a term that a plan holds is told at the number that passing its sequences leads to
  term_tells : (t : Term) (i o n f : ℕ) → Planned l p x i o t → Shallow n t → path_room < n + f
      → TermTells (unsequenced f p i) (standing (untouched (l.place i) t))
  unfolding standing untouched joined by_kind operator_kind first_around second_around entered
  term_tells (Term.leaf q) i o n f h s m =
      rw (passed_last p i f (f - 1) (omega arith) (λ z. leaf_other q (sym h.0 ∙ z))) (leaf_tells q i h.0)
  term_tells (Term.prefix e t) i o n f h s m =
      rw (passed_last p i f (f - 1) (omega arith) (λ z. omega (arith, h.0))) ((i, rw h.0, refl), tt)
  term_tells (Term.binary Term.internal t u) i o n f h s m =
      rw (passed_last p i f (f - 1) (omega arith) (λ z. omega (arith, h.0))) ((i, rw h.0, refl), tt)
  term_tells (Term.binary external t u) i o n f h s m =
      rw (passed_last p i f (f - 1) (omega arith) (λ z. omega (arith, h.0))) (
        (i, rw h.0, refl),
        (
          subterm_side t (first_of i) (suc i) _ (first_there external t u i o h) h.3 h.5,
          subterm_side u (second p i) (second p i) _ refl h.4 h.6,
        ),
      )
  term_tells (Term.binary Term.sequence t u) i o n f h s m =
      rw (
        passed_one p i f (f - 1) (omega arith) h.0,
        first_there Term.sequence t u i o h,
        ← h.3,
      )
      (term_tells t (suc i) (suc i) (n + 1) (f - 1) h.5 s.1.0 (omega arith))
  term_tells (Term.binary (parallel y) t u) i o n f h s m =
      rw (passed_last p i f (f - 1) (omega arith) (λ z. omega (arith, h.0))) (
        (i, rw h.0, refl),
        (
          subterm_side t (first_of i) (suc i) _ (first_there (parallel y) t u i o h) h.3 h.5,
          subterm_side u (second p i) (second p i) _ refl h.4 h.6,
        ),
      )

  module _ (low : Low l) where
    untouched_tells : (i o : ℕ) (P : Process) → Untouched l p x w i o P
        → Tells (of_term p i) (subterms p i) (standing P)
    unfolding of_term subterms
    untouched_tells i o P h =
        rw h.is
        (term_tells h.tree i o (length (l.place i).path) levels h.planned
        (planned_shallow l p x low h.tree i o h.planned) (omega arith))

    -- what stands at a reference, and its sides
    abbrev ThereTells : ℕ → Process → Type 0
    ThereTells n P = Tells (standing_at p w n) (sides_at p w n) P

    -- a term that no step has touched
    rests_tells : (P : Process) (n b : ℕ) (ks : List ℕ) → Rests l p x w n b ks P → ThereTells n (standing P)
    unfolding standing_at sides_at by_state
    rests_tells P n b ks h = rw h.rests (untouched_tells (term w n) _ P h.untouched_there)

    -- a side that has stepped, and one that has not
    stepped_side : (P : Process) (n i t b c : ℕ) → n ≡ i → b ≡ c → HoldsControl l p x w i c P [] → cells P ≤ cell_room
        → IsSide l p x w (record { reference = n; term = t; bound = b }) (some i) P
    unfolding side_reference
    stepped_side P n i t b c e d h m = rw (e, d) (refl, stepped h m)

    bare_side : (P : Process) (n t u b : ℕ) → n ≡ 0 → t ≡ u → Untouched l p x w u 0 P
        → IsSide l p x w (record { reference = n; term = t; bound = b }) none P
    unfolding side_reference
    bare_side P n t u b e d h = (e, waits e (rw d h))

    -- an entered choice or parallel, from its sides
    split_tells : (v : Place) (k : Split) (i j : Option ℕ) (P Q : Process) (n b : ℕ) (ks : List ℕ)
        → Splits l p x w n b ks v k P Q → entered i j ≡ true
        → IsSide l p x w (stepped_sides p w n (term w n)).first i P
        → IsSide l p x w (stepped_sides p w n (term w n)).second j Q → ThereTells n (split v k i j P Q)
    unfolding standing_at sides_at by_state
    split_tells v k i j P Q n b ks h begun one two =
        rw (h.enters, begun) ((term w n, refl, h.place_is), (one, two))

    first_split : (v : Place) (k : Split) (P Q : Process) (n b : ℕ) (ks : List ℕ) → Splits l p x w n b ks v k P Q
        → first_of (term w n) ≡ suc (term w n)
    first_split v k P Q n b ks h =
        let there = in_plan p (term w n) (omega (arith, h.kind_is, some_split k)) in
        sym (first_in (term w n) there) ∙ add-one (term w n)

    -- Ω and ⊥
    still_Ω : (n : ℕ) → state w n ≡ 2 → standing_at p w n ≡ Ended
    unfolding standing_at by_state
    still_Ω n h = rw h

    still-⊥ : (n : ℕ) → state w n ≡ 3 → standing_at p w n ≡ Dead
    unfolding standing_at by_state
    still-⊥ n h = rw h

    control_tells : (P : Process) (n b : ℕ) (ks : List ℕ) → HoldsControl l p x w n b P ks → cells P ≤ cell_room
        → ThereTells n (standing P)
    unfolding standing cells entered
    control_tells (leaf v q) n b ks h m = rests_tells (leaf v q) n b ks h
    control_tells (prefix v e P) n b ks h m = rests_tells (prefix v e P) n b ks h
    control_tells (internal v P Q) n b ks h m = rests_tells (internal v P Q) n b ks h
    control_tells (split v k none none P Q) n b ks h m = rests_tells (split v k none none P Q) n b ks h
    control_tells (split v k none (some j) P Q) n b ks h m =
        let within = bound_told p w n (term w n) k h.0.kind_is in
        split_tells v k none (some j) P Q n b ks h.0 refl
        (bare_side P (first w n) _ _ _ h.1 (first_split v k P Q n b ks h.0) h.3)
        (stepped_side Q (second_side w n) j _ _ _ h.2 within h.4 (omega arith))
    control_tells (split v k (some i) none P Q) n b ks h m =
        let within = bound_told p w n (term w n) k h.0.kind_is in
        split_tells v k (some i) none P Q n b ks h.0 refl
        (stepped_side P (first w n) i _ _ _ h.1 within h.3 (omega arith))
        (bare_side Q (second_side w n) _ _ _ h.2 refl h.4)
    control_tells (split v k (some i) (some j) P Q) n b ks h m =
        let within = bound_told p w n (term w n) k h.0.kind_is in
        split_tells v k (some i) (some j) P Q n b ks h.0 refl
        (stepped_side P (first w n) i _ _ _ h.1 within h.3 (omega arith))
        (stepped_side Q (second_side w n) j _ _ _ h.2 within h.4 (omega arith))
    control_tells (sequence v false P Q) n b ks h m = rests_tells (sequence v false P Q) n b ks h
    control_tells (sequence v true P Q) n b ks h m = control_tells P n b (h.0 ∷ ks) h.2 (omega arith)
    control_tells Ω n b ks h m = (still_Ω n h.1, tt)
    control_tells ⊥' n b ks h m = (still-⊥ n h.1, tt)

    part_tells : (a : Part) (P : Process) → Holds l p x w a P → Tells (code.standing p w a) (code.sides p w a) (standing P)
    part_tells a P (waits z h) =
        rw (← stands_waiting p w a _ z refl, ← divides_waiting p w a _ z refl) (untouched_tells a.term 0 P h)
    part_tells a P (stepped h m) =
        let above = beyond_bound l p x w P a.reference a.bound [] h in
        rw (← stands_there p w a _ (λ z. omega arith) refl, ← divides_there p w a _ (λ z. omega arith) refl)
        (control_tells P a.reference a.bound [] h m)

-- the promises of what stands in a part, and of its sides
module _ (p w : List ℕ) (a : Part) where
  pub standing_promised : (r : Standing) → r ≡ code.standing p w a
      → (r ≡ code.standing p w a) × StandingTold p w a r
  standing_promised r is = (is, λ l x P low h. rw is (part_tells l p x w low a P h).0)

  pub sides_promised : (r : Sides) → r ≡ code.sides p w a → (r ≡ code.sides p w a) × SidesTold p w a r
  sides_promised r is = (is, λ l x P low h. rw is (part_tells l p x w low a P h).1)
