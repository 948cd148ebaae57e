-- Document 01, 'Lines' (Script) and 'Steps and addresses': what a line of a script comes to in a state.
use Rattle.std.specs.Prelude.{List}
use Rattle.scripts.specs.Script.{Asked, address}
use Rattle.scripts.specs.Script as Script
use Rattle.terms.specs.Term.{Term}
use Rattle.rules.specs.Run.{State, Answer}
use Rattle.rules.specs.Run as Run
use Rattle.rules.specs.Addressed.{address_of, answered}

-- its own refusal, or its address's answer
unfoldable pub line_answer : List Term → State → Asked → Answer
line_answer ts s (address ds) = answered ts s (address_of ds)
line_answer ts s (Script.refused r) = Run.refused r
