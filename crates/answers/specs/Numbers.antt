-- What a host is told, as numbers. Each enum that a door answers has here the number of each of its values.
use Rattle.std.specs.Prelude.{ℕ, ◌+◌, Bool, true, false, Result, Ok, Err}
use Rattle.rules.specs.declared.Event.{Event}
use Rattle.rules.specs.declared.Event.TheVariants.{Tau as τ, Tick as ✓, Visible as visible}
use Rattle.rules.specs.declared.Status.{Status}
use Rattle.rules.specs.declared.Status.TheVariants.{Live as live, Ended as ended, Stuck as stuck}
use Rattle.runs.specs.Answer.{Answer}
use Rattle.runs.specs.Answer as Step
use Rattle.playing.specs.Played.{Played}
use Rattle.playing.specs.Played as Line
use Rattle.tables.specs.Checked.{Checked}
use Rattle.tables.specs.Checked as Table
use Rattle.reading.specs.Answers.{Read}
use Rattle.reading.specs.Answers as Track
use Rattle.writing.specs.Answers.{Saved}
use Rattle.writing.specs.Answers as Text
use Rattle.answers.specs.declared.NumberAt.{NumberAt}

-- what was asked for has been done
abbrev pub done : ℕ
done = 0

-- a refusal, by the paper's number
unfoldable pub of_refusal : ℕ → ℕ
of_refusal n = 0x10000 + n

-- the script has no further line
abbrev pub end : ℕ
end = 0x20000

-- an accepted step's event
unfoldable pub of_event : Event → ℕ
of_event τ = 0
of_event ✓ = 1
of_event (visible e) = 2 + e

unfoldable pub of_status : Status → ℕ
of_status live = 0
of_status ended = 1
of_status stuck = 2

-- whether τ and ✓ are offered
unfoldable pub of_offers : Bool → Bool → ℕ
of_offers true true = 3
of_offers true false = 1
of_offers false true = 2
of_offers false false = 0

unfoldable pub of_step : Answer → ℕ
of_step (Step.Accepted shown) = of_event shown.event
of_step (Step.Refused n) = of_refusal n

unfoldable pub of_played : Played → ℕ
of_played (Line.Stepped e next) = of_event e
of_played (Line.Refused n) = of_refusal n
of_played Line.End = end

-- where a script goes on: behind a line that was stepped, and else where it stood
unfoldable pub cursor_behind : ℕ → Played → ℕ
cursor_behind at (Line.Stepped e next) = next
cursor_behind at (Line.Refused n) = at
cursor_behind at Line.End = at

unfoldable pub of_checked : Checked → ℕ
of_checked (Table.Accepted counts) = done
of_checked (Table.Refused n line) = of_refusal n

unfoldable pub line_of_checked : Checked → ℕ
line_of_checked (Table.Accepted counts) = 0
line_of_checked (Table.Refused n line) = line

-- a text that was judged: accepted, or its refusal, by whatever number it has
unfoldable pub of_judged : {A : Type 0} → Result A NumberAt → ℕ
of_judged (Ok a) = done
of_judged (Err r) = of_refusal r.number

-- the line of its refusal, 0 where there is none
unfoldable pub line_of : {A : Type 0} → Result A NumberAt → ℕ
line_of (Ok a) = 0
line_of (Err r) = r.line

unfoldable pub of_read : Read → ℕ
of_read (Track.Accepted counts) = done
of_read (Track.Refused n line) = of_refusal n

unfoldable pub line_of_read : Read → ℕ
line_of_read (Track.Accepted counts) = 0
line_of_read (Track.Refused n line) = line

-- a track written; or refusal 12
unfoldable pub of_saved : Saved → ℕ
of_saved (Text.Written length) = done
of_saved (Text.Short length) = of_refusal 12

unfoldable pub length_of : Saved → ℕ
length_of (Text.Written length) = length
length_of (Text.Short length) = length
