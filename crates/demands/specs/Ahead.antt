-- States further on in a run.
use Rattle.std.specs.Prelude.{◌≡◌, List}
use Rattle.terms.specs.Term.{Term}
use Rattle.rules.specs.declared.Event.{Event}
use Rattle.rules.specs.Process.{Address}
use Rattle.rules.specs.Run.{State, answer}
use Rattle.rules.specs.Run as Run

-- states that accepted steps lead to from a state, one or more
pub data Ahead (ts : List Term) (s : State) : State → Type 0 where
  next : {t : State} (a : Address) (e : Event) → answer ts s a ≡ Run.accepted e t → Ahead ts s t
  further : {t u : State} (a : Address) (e : Event) → Ahead ts s t → answer ts t a ≡ Run.accepted e u → Ahead ts s u
