-- What the next line of a script asks for, by document 01's numbers: a step, by an address of so many digits, with the
-- next line from a place on; a refusal; or nothing, at the end of the script. And what an answer of code tells of it.
use Rattle.std.specs.Prelude.{ℕ, Option, Some, None, Result, Ok, Err}
use Rattle.lines.specs.Refusal.{number}
use Rattle.lines.specs.declared.Refusal.{Refusal}
use Rattle.scripts.specs.declared.Address.{Address as Found}

pub data ScriptStep : Type 0 where
  Address : ℕ → ℕ → ScriptStep
  Refused : ℕ → ScriptStep
  End : ScriptStep

-- an answer of code, by document 01's number of a refusal
unfoldable pub step_told : Result (Option Found) Refusal → ScriptStep
step_told (Ok (Some a)) = Address a.count a.next
step_told (Ok None) = End
step_told (Err r) = Refused (number r)
