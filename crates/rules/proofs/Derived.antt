-- The step of an address is the derivation that the address names. By induction over derivations a step takes
-- the digits of the address and gives the outcome; by induction over processes the digits that a step takes
-- name a derivation of what it gives. What a side's step makes of its split is one relation, `OneSide`, and
-- which side it is another, `Side`, so that no argument is made twice. Assumes nothing.
use Rattle.std.specs.Prelude.{ℕ, ◌≡◌, refl, Bool, true, false, ◌&&◌, List, [], ◌∷◌, ◌++◌, ◌↔◌, eqb}
use Rattle.std.proofs.Common.{sym, ap, subst, ◌∙◌, append-nil, append_assoc, arith, eqb-true, eq-eqb}
use Rattle.std.proofs.Math.Option.{Option, none, some, none-ne-some, some-injective}
use Rattle.lines.specs.Line.{choose}
use Rattle.lines.proofs.Digits.{both}
use Rattle.terms.specs.Term.{call, SKIP, STOP, Term}
use Rattle.places.specs.Place.{Place}
use Rattle.rules.specs.declared.Event.{Event}
use Rattle.rules.specs.declared.Event.TheVariants.{Tau as τ, Tick as ✓, Visible as visible}
use Rattle.rules.specs.Process.{Digit, one, two, three, four, Address, Split, choice, together, Process}
use Rattle.rules.specs.Process.{leaf, prefix, internal, split, sequence, Ω, ⊥'}
use Rattle.rules.specs.Track.{At, Outcome, Entered, first_eval, inside, around, carried, right_inside}
use Rattle.sets.specs.EventSet.{member}
use Rattle.rules.specs.Tracking.{Visible, Shows, passes, hides_τ, hides-✓, Tracks, process_call}
use Rattle.rules.specs.Tracking.{prefixing, skip, stop, internal_choice_1, internal_choice_2}
use Rattle.rules.specs.Tracking.{external_choice_1, external_choice_2, external_choice_3}
use Rattle.rules.specs.Tracking.{external_choice_4, sequential_composition_1, sequential_composition_2}
use Rattle.rules.specs.Tracking.{synchronized_parallelism_1, synchronized_parallelism_2}
use Rattle.rules.specs.Tracking.{synchronized_parallelism_3, synchronized_parallelism_4}
use Rattle.rules.specs.Step.{Stepped, stepped, one_side, by_side, same, both_sides, with_right}
use Rattle.rules.specs.Step.{in_sequence, by_left, at_Ω, then, step}
use Rattle.rules.proofs.Offered.{is_Ω}

-- what an answer was worked out from, where no answer comes from none
given : {A B : Type 0} (f : Option A → Option B) → f none ≡ none → (o : Option A) (x : B) → f o ≡ some x
    → (y : A) × (o ≡ some y) × (f (some y) ≡ some x)
given f h none x e = absurd (none-ne-some x (sym h ∙ e))
given f h (some y) x e = (y, refl, e)

then_given : (o : Option Stepped) (f : Stepped → Option Stepped) (x : Stepped) → then o f ≡ some x
    → (y : Stepped) × (o ≡ some y) × (f y ≡ some x)
unfolding then
then_given o f x e = given (λ p. then p f) refl o x e

-- what a test showed, where it left an answer
chosen : {A : Type 0} (b : Bool) (y x : A) → choose b (some y) none ≡ some x → (b ≡ true) × (some y ≡ some x)
chosen true y x e = (refl, e)
chosen false y x e = absurd (none-ne-some x e)

spared : {A : Type 0} (b : Bool) (y x : A) → choose b none (some y) ≡ some x → (b ≡ false) × (some y ≡ some x)
spared true y x e = absurd (none-ne-some x e)
spared false y x e = (refl, e)

-- what a split gives where one of its sides gives r
module _ (i : Entered) (put : Option ℕ → Process → Process) (m : ℕ) (r : Outcome) where
  data OneSide : Split → Outcome → Type 0 where
    stays : r.event ≡ τ → OneSide choice (around i r τ (put (some r.reference) r.process) m)
    leaves : {v : Event} → r.event ≡ v → Visible v → OneSide choice (around i r v r.process r.reference)
    shows : {x : ℕ} {v e : Event} → r.event ≡ v → Shows x v e
        → OneSide (together x) (around i r e (put (some r.reference) r.process) m)

  visible_leaves : (v : Event) → Visible v → (a : Address)
      → one_side choice v i put m r a ≡ stepped (around i r v r.process r.reference) a
  unfolding one_side
  visible_leaves τ h a = absurd h
  visible_leaves ✓ h a = refl
  visible_leaves (visible e) h a = refl

  shown : {x : ℕ} {v e : Event} → Shows x v e → (a : Address)
      → one_side (together x) v i put m r a ≡ stepped (around i r e (put (some r.reference) r.process) m) a
  unfolding one_side
  shown (passes h) a = rw h
  shown hides_τ a = refl
  shown hides-✓ a = refl

  -- these are the split's steps by that side
  side_steps : {k : Split} {o : Outcome} {y : Option Stepped} {a : Address} → y ≡ stepped r a → OneSide k o
      → by_side k i put m y ≡ stepped o a
  unfolding one_side by_side
  side_steps p (stays q) = rw (p, q)
  side_steps {a = a} p (leaves {v = v} q h) = rw p (cc (visible_leaves v h a))
  side_steps {a = a} p (shows q h) = rw p (cc (shown h a))

  side_stepped : (k : Split) (v : Event) → r.event ≡ v → (a : Address) (x : Stepped)
      → one_side k v i put m r a ≡ some x → (o : Outcome) × (stepped o a ≡ some x) × OneSide k o
  unfolding one_side
  side_stepped choice τ q a x e = (_, e, stays q)
  side_stepped choice ✓ q a x e = (_, e, leaves q tt)
  side_stepped choice (visible n) q a x e = (_, e, leaves q tt)
  side_stepped (together y) τ q a x e = (_, e, shows q hides_τ)
  side_stepped (together y) ✓ q a x e = (_, e, shows q hides-✓)
  side_stepped (together y) (visible n) q a x e =
      let (h, e') = spared (member n y) _ x e in (_, e', shows q (passes h))

-- a side of a split: its digit, its process, its reference and the other's, and how it is put back
data Side (w : Place) (k : Split) (n₁ n₂ : Option ℕ) (P Q : Process)
    : Digit → Process → Option ℕ → Option ℕ → (Option ℕ → Process → Process) → Type 0 where
  first : Side w k n₁ n₂ P Q one P n₁ n₂ (λ n P'. split w k n n₂ P' Q)
  second : Side w k n₁ n₂ P Q two Q n₂ n₁ (λ n Q'. split w k n₁ n P Q')

-- both sides do one event of the set
both_do : (x : ℕ) {n : ℕ} {v u : Event} → v ≡ visible n → u ≡ visible n → member n x ≡ true
    → same x v u ≡ some n
unfolding same
both_do x {n = n} p q h = rw (p, q, eq-eqb n n refl, h)

done_by_both : (x n : ℕ) (v u : Event) → same x v u ≡ some n
    → (v ≡ visible n) × (u ≡ visible n) × (member n x ≡ true)
unfolding same
done_by_both x n τ u e = absurd (none-ne-some n e)
done_by_both x n ✓ u e = absurd (none-ne-some n e)
done_by_both x n (visible a) τ e = absurd (none-ne-some n e)
done_by_both x n (visible a) ✓ e = absurd (none-ne-some n e)
done_by_both x n (visible a) (visible b) e =
    let (h, p) = chosen (eqb a b && member a x) a n e in
    let (q, g) = both (eqb a b) (member a x) h in
    let same_event = some-injective a n p in
    (ap visible same_event, ap visible (sym (eqb-true a b q) ∙ same_event), rw same_event at g)

-- a sequence stays unless its left ends
sequence_stays : (w : Place) (Q : Process) (r : Outcome) (v : Event) → (v ≡ ✓ → ⊥) → (a : Address)
    → in_sequence v w Q r a ≡ stepped (carried r (sequence w true r.process Q)) a
unfolding in_sequence
sequence_stays w Q r τ h a = refl
sequence_stays w Q r ✓ h a = absurd (h refl)
sequence_stays w Q r (visible n) h a = refl

module _ (ts : List Term) where
  -- the step of an address is the derivation that it names, whatever digits come behind it
  pub derived_step : {a : Address} {P : Process} {s : At} {r : Outcome} → Tracks ts a P s r → (rest : Address)
      → step ts P s (a ++ rest) ≡ stepped r rest
  unfolding step by_left in_sequence then with_right both_sides at_Ω
  derived_step process_call rest = refl
  derived_step prefixing rest = refl
  derived_step skip rest = refl
  derived_step stop rest = refl
  derived_step internal_choice_1 rest = refl
  derived_step internal_choice_2 rest = refl
  derived_step (external_choice_1 d h) rest = side_steps _ _ _ _ (derived_step d rest) (stays h)
  derived_step (external_choice_2 d h) rest = side_steps _ _ _ _ (derived_step d rest) (stays h)
  derived_step (external_choice_3 d h) rest = side_steps _ _ _ _ (derived_step d rest) (leaves refl h)
  derived_step (external_choice_4 d h) rest = side_steps _ _ _ _ (derived_step d rest) (leaves refl h)
  derived_step (sequential_composition_1 d h) rest = rw (derived_step d rest) (sequence_stays _ _ _ _ h rest)
  derived_step (sequential_composition_2 d h) rest = rw (derived_step d rest, h)
  derived_step (synchronized_parallelism_1 d h) rest = side_steps _ _ _ _ (derived_step d rest) (shows refl h)
  derived_step (synchronized_parallelism_2 d h) rest = side_steps _ _ _ _ (derived_step d rest) (shows refl h)
  derived_step (synchronized_parallelism_3 {a = a} {b = b} d d' p q h c) rest =
      rw (c, append_assoc a b rest, derived_step d (b ++ rest), derived_step d' rest, both_do _ p q h)
  derived_step (synchronized_parallelism_4 p q) rest = rw (p, q)

  -- digits taken off an address name a derivation of what is given
  abbrev Named : Process → At → Address → Stepped → Type 0
  Named P s c x = (a : Address) × (c ≡ a ++ x.unused) × Tracks ts a P s x.outcome

  along : {P : Process} {s : At} {c : Address} {y x : Stepped} → some y ≡ some x → Named P s c y → Named P s c x
  along {P} {s} {c} {y} {x} e n = subst (Named P s c) (some-injective y x e) n

  -- a split's step by a side is a derivation where the side's is
  module _ {w : Place} {n₁ n₂ : Option ℕ} {P Q : Process} {s : At} where
    side_rule : {k : Split} {g : Digit} {S : Process} {own other : Option ℕ}
        {put : Option ℕ → Process → Process} {a : Address} {r o : Outcome} → Side w k n₁ n₂ P Q g S own other put
        → Tracks ts a S (inside (first_eval own other w s) s) r
        → OneSide (first_eval own other w s) put s.reference r k o
        → Tracks ts (g ∷ a) (split w k n₁ n₂ P Q) s o
    side_rule first d (stays q) = external_choice_1 d q
    side_rule first d (leaves q h) = rw (← q) (external_choice_3 d (rw q h))
    side_rule first d (shows q h) = synchronized_parallelism_1 d (rw (← q) at h)
    side_rule second d (stays q) = external_choice_2 d q
    side_rule second d (leaves q h) = rw (← q) (external_choice_4 d (rw q h))
    side_rule second d (shows q h) = synchronized_parallelism_2 d (rw (← q) at h)

    by_side_derived : {k : Split} {g : Digit} {S : Process} {own other : Option ℕ}
        {put : Option ℕ → Process → Process} {c : Address} → Side w k n₁ n₂ P Q g S own other put
        → (o : Option Stepped) (x : Stepped) → by_side k (first_eval own other w s) put s.reference o ≡ some x
        → ((y : Stepped) → o ≡ some y → Named S (inside (first_eval own other w s) s) c y)
        → Named (split w k n₁ n₂ P Q) s (g ∷ c) x
    unfolding by_side
    by_side_derived side none x e further = absurd (none-ne-some x e)
    by_side_derived {g = g} {put = put} side (some y) x e further =
        let (r, q, t) = side_stepped _ put s.reference y.outcome _ _ refl y.unused x e in
        let (a, p, d) = further y refl in
        along q (g ∷ a, cc, side_rule side d t)

  -- a sequence's step is a derivation where its left's is
  in_sequence_derived : {w : Place} {b : Bool} {P Q : Process} {s : At} {c : Address} {x : Stepped}
      (v : Event) (y : Stepped) → y.outcome.event ≡ v → in_sequence v w Q y.outcome y.unused ≡ some x
      → Named P s c y → Named (sequence w b P Q) s c x
  unfolding in_sequence
  in_sequence_derived τ y q e (a, p, d) =
      along e (a, p, sequential_composition_1 d λ h. let z : ◌≡◌ {A = ℕ} 0 1 = cc in omega arith)
  in_sequence_derived ✓ y q e (a, p, d) = along e (a, p, sequential_composition_2 d q)
  in_sequence_derived (visible n) y q e (a, p, d) =
      along e (a, p, sequential_composition_1 d λ h. let z : ◌≡◌ {A = ℕ} 0 1 = cc in omega arith)

  -- the digits that a step takes off an address name a derivation of what it gives
  pub step_derived : (P : Process) (s : At) (c : Address) (x : Stepped) → step ts P s c ≡ some x
      → (a : Address) × (c ≡ a ++ x.unused) × Tracks ts a P s x.outcome
  unfolding step with_right both_sides by_left
  step_derived (leaf w (call n)) s c x e = along e ([], refl, process_call)
  step_derived (leaf w SKIP) s c x e = along e ([], refl, skip)
  step_derived (leaf w STOP) s c x e = along e ([], refl, stop)
  step_derived (prefix w n P) s c x e = along e ([], refl, prefixing)
  step_derived (internal w P Q) s [] x e = absurd (none-ne-some x e)
  step_derived (internal w P Q) s (one ∷ c) x e = along e (one ∷ [], refl, internal_choice_1)
  step_derived (internal w P Q) s (two ∷ c) x e = along e (two ∷ [], refl, internal_choice_2)
  step_derived (internal w P Q) s (three ∷ c) x e = absurd (none-ne-some x e)
  step_derived (internal w P Q) s (four ∷ c) x e = absurd (none-ne-some x e)
  step_derived (split w k n₁ n₂ P Q) s [] x e = absurd (none-ne-some x e)
  step_derived (split w k n₁ n₂ P Q) s (one ∷ c) x e = by_side_derived first _ x e (step_derived P _ c)
  step_derived (split w k n₁ n₂ P Q) s (two ∷ c) x e = by_side_derived second _ x e (step_derived Q _ c)
  step_derived (split w choice n₁ n₂ P Q) s (three ∷ c) x e = absurd (none-ne-some x e)
  step_derived (split w (together z) n₁ n₂ P Q) s (three ∷ c) x e =
      let (l, o, e') = then_given _ _ x e in
      let (r, o', e'') = given (with_right z w n₁ n₂ s l.outcome) refl _ x e' in
      let (n, g, e''') = given (both_sides z w n₁ n₂ s l.outcome r) refl _ x e'' in
      let (p, q, h) = done_by_both z n _ _ g in
      let (a, u, d) = step_derived P (inside (first_eval n₁ n₂ w s) s) c l o in
      let (b, v, d') = step_derived Q (right_inside n₁ n₂ w s l.outcome) l.unused r o' in
      let taken = u ∙ ap (λ z. a ++ z) v ∙ sym (append_assoc a b r.unused) in
      along e''' (three ∷ (a ++ b), ap (λ z. three ∷ z) taken, synchronized_parallelism_3 d d' p q h refl)
  step_derived (split w choice n₁ n₂ P Q) s (four ∷ c) x e = absurd (none-ne-some x e)
  step_derived (split w (together z) n₁ n₂ P Q) s (four ∷ c) x e =
      let (h, e') = chosen (at_Ω P && at_Ω Q) _ x e in
      let (p, q) = both (at_Ω P) (at_Ω Q) h in
      along e' (four ∷ [], refl, synchronized_parallelism_4 (is_Ω P p) (is_Ω Q q))
  step_derived (sequence w b P Q) s c x e =
      let (y, o, e') = given (by_left w Q) refl _ x e in
      in_sequence_derived _ y refl e' (step_derived P s c y o)
  step_derived Ω s c x e = absurd (none-ne-some x e)
  step_derived ⊥' s c x e = absurd (none-ne-some x e)

  -- an address names at most one derivation
  pub one_derivation : {a : Address} {P : Process} {s : At} {r r' : Outcome}
      → Tracks ts a P s r → Tracks ts a P s r' → r ≡ r'
  one_derivation d d' =
      ap (λ x. x.outcome) (some-injective _ _ (sym (derived_step d []) ∙ derived_step d' []))

  -- a step that leaves no digit is the derivation that the address names
  pub step_exactly : (P : Process) (s : At) (a : Address) (r : Outcome)
      → (step ts P s a ≡ stepped r []) ↔ Tracks ts a P s r
  step_exactly P s a r = (
    λ e. let (b, p, d) = step_derived P s a _ e in rw (p, append-nil b) d,
    λ d. rw append-nil at (derived_step d []),
  )
