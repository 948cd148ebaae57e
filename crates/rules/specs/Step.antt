-- The step of an address, worked out: from a process and where it stands, by the digits that it needs of an
-- address, the outcome and the digits that are left. `proofs/Derived.antt` shows that it is the derivation so
-- named.
use Rattle.std.specs.Prelude.{ℕ, Bool, true, false, ◌&&◌, List, [], ◌∷◌, eqb}
use Rattle.std.proofs.Math.Option.{Option, none, some}
use Rattle.lines.specs.Line.{choose}
use Rattle.terms.specs.Term.{call, SKIP, STOP, Term}
use Rattle.places.specs.Place.{Place}
use Rattle.rules.specs.declared.Event.{Event}
use Rattle.rules.specs.declared.Event.TheVariants.{Tau as τ, Tick as ✓, Visible as visible}
use Rattle.rules.specs.Process.{one, two, three, four, Address, Split, choice, together, Process, leaf}
use Rattle.rules.specs.Process.{prefix, internal, split, sequence, Ω, ⊥', rhs}
use Rattle.rules.specs.Track.{At, Outcome, labelled, prefixed, Entered, first_eval, inside, around}
use Rattle.rules.specs.Track.{right_eval, right_inside, jointly, carried, started, ended}
use Rattle.sets.specs.EventSet.{member}

pub record Stepped : Type 0 where
  pub outcome : Outcome
  pub unused : Address

abbrev pub stepped : Outcome → Address → Option Stepped
stepped r a = some (record { outcome = r; unused = a })

-- what one side's step makes of a split: a choice stays on τ, and is dropped otherwise; a parallel shows a
-- visible event outside its set, and τ for τ or ✓. `put` puts the side back
unfoldable pub one_side :
    Split → Event → Entered → (Option ℕ → Process → Process) → ℕ → Outcome → Address → Option Stepped
one_side choice τ i put m r a = stepped (around i r τ (put (some r.reference) r.process) m) a
one_side choice ✓ i put m r a = stepped (around i r ✓ r.process r.reference) a
one_side choice (visible e) i put m r a = stepped (around i r (visible e) r.process r.reference) a
one_side (together x) τ i put m r a = stepped (around i r τ (put (some r.reference) r.process) m) a
one_side (together x) ✓ i put m r a = stepped (around i r τ (put (some r.reference) r.process) m) a
one_side (together x) (visible e) i put m r a =
    choose (member e x) none (stepped (around i r (visible e) (put (some r.reference) r.process) m) a)

unfoldable pub by_side : Split → Entered → (Option ℕ → Process → Process) → ℕ → Option Stepped → Option Stepped
by_side k i put m none = none
by_side k i put m (some r) = one_side k r.outcome.event i put m r.outcome r.unused

-- both sides do the same event of the set
unfoldable pub same : ℕ → Event → Event → Option ℕ
same x (visible a) (visible b) = choose (eqb a b && member a x) (some a) none
same x (visible a) τ = none
same x (visible a) ✓ = none
same x τ f = none
same x ✓ f = none

unfoldable pub both_sides : ℕ → Place → Option ℕ → Option ℕ → At → Outcome → Stepped → Option ℕ → Option Stepped
both_sides x w n₁ n₂ s l r none = none
both_sides x w n₁ n₂ s l r (some e) =
    stepped
    (jointly (first_eval n₁ n₂ w s) l (right_eval n₁ n₂ w s l) r.outcome e
    (split w (together x) (some l.reference) (some r.outcome.reference) l.process r.outcome.process)
    s.reference)
    r.unused

unfoldable pub with_right : ℕ → Place → Option ℕ → Option ℕ → At → Outcome → Option Stepped → Option Stepped
with_right x w n₁ n₂ s l none = none
with_right x w n₁ n₂ s l (some r) = both_sides x w n₁ n₂ s l r (same x l.event r.outcome.event)

-- a sequence: ✓ of the left becomes τ and starts the right; otherwise it stays
unfoldable pub in_sequence : Event → Place → Process → Outcome → Address → Option Stepped
in_sequence τ w Q r a = stepped (carried r (sequence w true r.process Q)) a
in_sequence (visible e) w Q r a = stepped (carried r (sequence w true r.process Q)) a
in_sequence ✓ w Q r a = stepped (started r Q w) a

unfoldable pub by_left : Place → Process → Option Stepped → Option Stepped
by_left w Q none = none
by_left w Q (some r) = in_sequence r.outcome.event w Q r.outcome r.unused

unfoldable pub at_Ω : Process → Bool
at_Ω (leaf w l) = false
at_Ω (prefix w e P) = false
at_Ω (internal w P Q) = false
at_Ω (split w s m n P Q) = false
at_Ω (sequence w b P Q) = false
at_Ω Ω = true
at_Ω ⊥' = false

unfoldable pub then : Option Stepped → (Stepped → Option Stepped) → Option Stepped
then none f = none
then (some r) f = f r

unfoldable pub step : List Term → Process → At → Address → Option Stepped
step ts (leaf w (call n)) s a = stepped (labelled τ (rhs ts n) w s) a
step ts (leaf w SKIP) s a = stepped (labelled ✓ Ω w s) a
step ts (leaf w STOP) s a = stepped (labelled τ ⊥' w s) a
step ts (prefix w e P) s a = stepped (prefixed e P w s) a
step ts (internal w P Q) s [] = none
step ts (internal w P Q) s (one ∷ a) = stepped (labelled τ P w s) a
step ts (internal w P Q) s (two ∷ a) = stepped (labelled τ Q w s) a
step ts (internal w P Q) s (three ∷ a) = none
step ts (internal w P Q) s (four ∷ a) = none
step ts (split w k n₁ n₂ P Q) s [] = none
step ts (split w k n₁ n₂ P Q) s (one ∷ a) =
    by_side k (first_eval n₁ n₂ w s) (λ n P'. split w k n n₂ P' Q) s.reference
    (step ts P (inside (first_eval n₁ n₂ w s) s) a)
step ts (split w k n₁ n₂ P Q) s (two ∷ a) =
    by_side k (first_eval n₂ n₁ w s) (λ n Q'. split w k n₁ n P Q') s.reference
    (step ts Q (inside (first_eval n₂ n₁ w s) s) a)
step ts (split w choice n₁ n₂ P Q) s (three ∷ a) = none
step ts (split w (together x) n₁ n₂ P Q) s (three ∷ a) =
    then (step ts P (inside (first_eval n₁ n₂ w s) s) a)
    (λ l. with_right x w n₁ n₂ s l.outcome (step ts Q (right_inside n₁ n₂ w s l.outcome) l.unused))
step ts (split w choice n₁ n₂ P Q) s (four ∷ a) = none
step ts (split w (together x) n₁ n₂ P Q) s (four ∷ a) = choose (at_Ω P && at_Ω Q) (stepped (ended n₁ n₂ s) a) none
step ts (sequence w b P Q) s a = by_left w Q (step ts P s a)
step ts Ω s a = none
step ts ⊥' s a = none
