-- Fig. 7 of the report: the tracking rules as derivations, each named by an address as document 01 has it.
-- One constructor a rule, in the report's order, with its premises and side conditions. The derivations
-- mention no step function.
use Rattle.std.specs.Prelude.{ℕ, ◌≡◌, Bool, true, false, List, [], ◌∷◌, ◌++◌}
use Rattle.std.proofs.Math.Option.{Option, some}
use Rattle.sets.specs.EventSet.{member}
use Rattle.terms.specs.Term.{call, SKIP, STOP, Term}
use Rattle.places.specs.Place.{Place}
use Rattle.rules.specs.declared.Event.{Event}
use Rattle.rules.specs.declared.Event.TheVariants.{Tau as τ, Tick as ✓, Visible as visible}
use Rattle.rules.specs.Process.{one, two, three, four, Address, choice, together, Process, leaf, prefix}
use Rattle.rules.specs.Process.{internal, split, sequence, Ω, ⊥', rhs}
use Rattle.rules.specs.Track.{At, Outcome, labelled, prefixed, first_eval, inside, around, right_eval}
use Rattle.rules.specs.Track.{right_inside, jointly, carried, started, ended}

-- e ∈ Σ ∪ {✓}
abbrev pub Visible : Event → Type 0
Visible τ = ⊥
Visible ✓ = Unit {0}
Visible (visible e) = Unit {0}

-- what a parallel shows of one side's event: a visible event outside its set, and τ for τ or ✓
pub data Shows (x : ℕ) : Event → Event → Type 0 where
  passes : {a : ℕ} → member a x ≡ false → Shows x (visible a) (visible a)
  hides_τ : Shows x τ τ
  hides-✓ : Shows x ✓ τ

pub data Tracks (ts : List Term) : Address → Process → At → Outcome → Type 0 where
  process_call : {n : ℕ} {w : Place} {s : At} → Tracks ts [] (leaf w (call n)) s (labelled τ (rhs ts n) w s)
  prefixing : {a : ℕ} {w : Place} {P : Process} {s : At} → Tracks ts [] (prefix w a P) s (prefixed a P w s)
  skip : {w : Place} {s : At} → Tracks ts [] (leaf w SKIP) s (labelled ✓ Ω w s)
  stop : {w : Place} {s : At} → Tracks ts [] (leaf w STOP) s (labelled τ ⊥' w s)
  internal_choice_1 : {w : Place} {P Q : Process} {s : At}
      → Tracks ts (one ∷ []) (internal w P Q) s (labelled τ P w s)
  internal_choice_2 : {w : Place} {P Q : Process} {s : At}
      → Tracks ts (two ∷ []) (internal w P Q) s (labelled τ Q w s)
  external_choice_1 : {a : Address} {w : Place} {n₁ n₂ : Option ℕ} {P Q : Process} {s : At} {r : Outcome}
      → Tracks ts a P (inside (first_eval n₁ n₂ w s) s) r → r.event ≡ τ
      → Tracks ts (one ∷ a) (split w choice n₁ n₂ P Q) s
      (around (first_eval n₁ n₂ w s) r τ (split w choice (some r.reference) n₂ r.process Q) s.reference)
  external_choice_2 : {a : Address} {w : Place} {n₁ n₂ : Option ℕ} {P Q : Process} {s : At} {r : Outcome}
      → Tracks ts a Q (inside (first_eval n₂ n₁ w s) s) r → r.event ≡ τ
      → Tracks ts (two ∷ a) (split w choice n₁ n₂ P Q) s
      (around (first_eval n₂ n₁ w s) r τ (split w choice n₁ (some r.reference) P r.process) s.reference)
  external_choice_3 : {a : Address} {w : Place} {n₁ n₂ : Option ℕ} {P Q : Process} {s : At} {r : Outcome}
      → Tracks ts a P (inside (first_eval n₁ n₂ w s) s) r → Visible r.event
      → Tracks ts (one ∷ a) (split w choice n₁ n₂ P Q) s
      (around (first_eval n₁ n₂ w s) r r.event r.process r.reference)
  external_choice_4 : {a : Address} {w : Place} {n₁ n₂ : Option ℕ} {P Q : Process} {s : At} {r : Outcome}
      → Tracks ts a Q (inside (first_eval n₂ n₁ w s) s) r → Visible r.event
      → Tracks ts (two ∷ a) (split w choice n₁ n₂ P Q) s
      (around (first_eval n₂ n₁ w s) r r.event r.process r.reference)
  sequential_composition_1 : {a : Address} {w : Place} {b : Bool} {P Q : Process} {s : At} {r : Outcome}
      → Tracks ts a P s r → (r.event ≡ ✓ → ⊥)
      → Tracks ts a (sequence w b P Q) s (carried r (sequence w true r.process Q))
  sequential_composition_2 : {a : Address} {w : Place} {b : Bool} {P Q : Process} {s : At} {r : Outcome}
      → Tracks ts a P s r → r.event ≡ ✓
      → Tracks ts a (sequence w b P Q) s (started r Q w)
  synchronized_parallelism_1 : {a : Address} {w : Place} {x : ℕ} {n₁ n₂ : Option ℕ} {P Q : Process} {s : At}
      {r : Outcome} {e : Event}
      → Tracks ts a P (inside (first_eval n₁ n₂ w s) s) r → Shows x r.event e
      → Tracks ts (one ∷ a) (split w (together x) n₁ n₂ P Q) s
      (around (first_eval n₁ n₂ w s) r e (split w (together x) (some r.reference) n₂ r.process Q) s.reference)
  synchronized_parallelism_2 : {a : Address} {w : Place} {x : ℕ} {n₁ n₂ : Option ℕ} {P Q : Process} {s : At}
      {r : Outcome} {e : Event}
      → Tracks ts a Q (inside (first_eval n₂ n₁ w s) s) r → Shows x r.event e
      → Tracks ts (two ∷ a) (split w (together x) n₁ n₂ P Q) s
      (around (first_eval n₂ n₁ w s) r e (split w (together x) n₁ (some r.reference) P r.process) s.reference)
  synchronized_parallelism_3 : {a b c : Address} {w : Place} {x : ℕ} {n₁ n₂ : Option ℕ} {P Q : Process} {s : At}
      {l r : Outcome} {e : ℕ}
      → Tracks ts a P (inside (first_eval n₁ n₂ w s) s) l
      → Tracks ts b Q (right_inside n₁ n₂ w s l) r
      → l.event ≡ visible e → r.event ≡ visible e → member e x ≡ true → c ≡ a ++ b
      → Tracks ts (three ∷ c) (split w (together x) n₁ n₂ P Q) s
      (jointly (first_eval n₁ n₂ w s) l (right_eval n₁ n₂ w s l) r e
      (split w (together x) (some l.reference) (some r.reference) l.process r.process) s.reference)
  synchronized_parallelism_4 : {w : Place} {x : ℕ} {n₁ n₂ : Option ℕ} {P Q : Process} {s : At} → P ≡ Ω → Q ≡ Ω
      → Tracks ts (four ∷ []) (split w (together x) n₁ n₂ P Q) s (ended n₁ n₂ s)
