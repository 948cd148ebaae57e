-- Fig. 3 of the report: the plain rules, one constructor a rule, in the report's order; and stripping, which
-- removes references and places and reads ⊥ as STOP.
use Rattle.std.specs.Prelude.{ℕ, ◌≡◌, true, List}
use Rattle.std.proofs.Math.Option.{Option, none, some}
use Rattle.std.proofs.Math.ListN.{get_elem?}
use Rattle.terms.specs.Term.{Leaf, call, SKIP, STOP, Operator, external, parallel, Term}
use Rattle.terms.specs.Term as Term
use Rattle.rules.specs.declared.Event.{Event}
use Rattle.rules.specs.declared.Event.TheVariants.{Tau as τ, Tick as ✓, Visible as visible}
use Rattle.rules.specs.Process.{Split, choice, together, Process, split, Ω, ⊥'}
use Rattle.rules.specs.Process as Live
use Rattle.sets.specs.EventSet.{member}
use Rattle.rules.specs.Tracking.{Visible, Shows}

-- a process as the plain rules have it: a term, or Ω in it
pub data Plain : Type 0 where
  leaf : Leaf → Plain
  prefix : ℕ → Plain → Plain
  binary : Operator → Plain → Plain → Plain
  ended : Plain

unfoldable pub plain : Term → Plain
plain (Term.leaf l) = leaf l
plain (Term.prefix e t) = prefix e (plain t)
plain (Term.binary o t u) = binary o (plain t) (plain u)

unfoldable pub plain_side : Option Term → Plain
plain_side none = leaf STOP
plain_side (some t) = plain t

abbrev pub plain_rhs : List Term → ℕ → Plain
plain_rhs ts n = plain_side (get_elem? ts n)

unfoldable pub operator : Split → Operator
operator choice = external
operator (together x) = parallel x

unfoldable pub strip : Process → Plain
strip (Live.leaf w l) = leaf l
strip (Live.prefix w e P) = prefix e (strip P)
strip (Live.internal w P Q) = binary Term.internal (strip P) (strip Q)
strip (split w s m n P Q) = binary (operator s) (strip P) (strip Q)
strip (Live.sequence w b P Q) = binary Term.sequence (strip P) (strip Q)
strip Ω = ended
strip ⊥' = leaf STOP

pub data Steps (ts : List Term) : Plain → Event → Plain → Type 0 where
  process_call : {n : ℕ} → Steps ts (leaf (call n)) τ (plain_rhs ts n)
  prefixing : {a : ℕ} {P : Plain} → Steps ts (prefix a P) (visible a) P
  skip : Steps ts (leaf SKIP) ✓ ended
  internal_choice_1 : {P Q : Plain} → Steps ts (binary Term.internal P Q) τ P
  internal_choice_2 : {P Q : Plain} → Steps ts (binary Term.internal P Q) τ Q
  external_choice_1 : {P Q P' : Plain}
      → Steps ts P τ P' → Steps ts (binary external P Q) τ (binary external P' Q)
  external_choice_2 : {P Q Q' : Plain}
      → Steps ts Q τ Q' → Steps ts (binary external P Q) τ (binary external P Q')
  external_choice_3 : {P Q P' : Plain} {e : Event}
      → Steps ts P e P' → Visible e → Steps ts (binary external P Q) e P'
  external_choice_4 : {P Q Q' : Plain} {e : Event}
      → Steps ts Q e Q' → Visible e → Steps ts (binary external P Q) e Q'
  sequential_composition_1 : {P Q P' : Plain} {e : Event} → Steps ts P e P' → (e ≡ ✓ → ⊥)
      → Steps ts (binary Term.sequence P Q) e (binary Term.sequence P' Q)
  sequential_composition_2 : {P Q P' : Plain} → Steps ts P ✓ P' → P' ≡ ended
      → Steps ts (binary Term.sequence P Q) τ Q
  synchronized_parallelism_1 : {x : ℕ} {P Q P' : Plain} {e e' : Event} → Steps ts P e' P' → Shows x e' e
      → Steps ts (binary (parallel x) P Q) e (binary (parallel x) P' Q)
  synchronized_parallelism_2 : {x : ℕ} {P Q Q' : Plain} {e e' : Event} → Steps ts Q e' Q' → Shows x e' e
      → Steps ts (binary (parallel x) P Q) e (binary (parallel x) P Q')
  synchronized_parallelism_3 : {x a : ℕ} {P Q P' Q' : Plain} → Steps ts P (visible a) P' → Steps ts Q (visible a) Q'
      → member a x ≡ true → Steps ts (binary (parallel x) P Q) (visible a) (binary (parallel x) P' Q')
  synchronized_parallelism_4 : {x : ℕ} {P Q : Plain} → P ≡ ended → Q ≡ ended
      → Steps ts (binary (parallel x) P Q) ✓ ended
