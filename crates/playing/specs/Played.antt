-- What a line of a script comes to, by document 01's numbers: a step with the event that it shows, and the next line from a
-- place on; a refusal; or nothing, at the end of the script. And what an answer of code tells of it.
use Rattle.std.specs.Prelude.{ℕ, Option, Some, None, Result, Ok, Err}
use Rattle.lines.specs.Refusal.{number}
use Rattle.lines.specs.declared.Refusal.{Refusal}
use Rattle.rules.specs.declared.Event.{Event}
use Rattle.playing.specs.declared.PlayedStep.{PlayedStep}

pub data Played : Type 0 where
  Stepped : Event → ℕ → Played
  Refused : ℕ → Played
  End : Played

-- an answer of code, by document 01's number of a refusal
unfoldable pub played_told : Result (Option PlayedStep) Refusal → Played
played_told (Ok (Some s)) = Stepped s.event s.next
played_told (Ok None) = End
played_told (Err r) = Refused (number r)
