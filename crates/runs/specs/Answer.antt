-- What an address comes to, by document 01's numbers: a step with the event that it shows, or a refusal. And what an answer
-- of code tells of it.
use Rattle.std.specs.Prelude.{ℕ, Result, Ok, Err}
use Rattle.lines.specs.Refusal.{number}
use Rattle.lines.specs.declared.Refusal.{Refusal}
use Rattle.runs.specs.declared.Shown.{Shown}

pub data Answer : Type 0 where
  Accepted : Shown → Answer
  Refused : ℕ → Answer

-- an answer of code, by document 01's number of a refusal
unfoldable pub answer_told : Result Shown Refusal → Answer
answer_told (Ok s) = Accepted s
answer_told (Err r) = Refused (number r)
