-- An answer whose refusal is a number, whatever number that is: what it tells. And a text's refusal by document 01's number.
use Rattle.std.specs.Prelude.{ℕ, Option, Some, None, Result, Ok, Err}
use Rattle.lines.specs.Refusal.{number}
use Rattle.lines.specs.declared.RefusedAt.{RefusedAt}
use Rattle.links.specs.declared.GraphCounts.{GraphCounts}
use Rattle.tables.specs.declared.TableCounts.{TableCounts}
use Rattle.tables.specs.Checked.{Checked}
use Rattle.tables.specs.Checked as Table
use Rattle.runs.specs.declared.Shown.{Shown}
use Rattle.runs.specs.Answer.{Answer}
use Rattle.runs.specs.Answer as Step
use Rattle.playing.specs.declared.PlayedStep.{PlayedStep}
use Rattle.playing.specs.Played.{Played}
use Rattle.playing.specs.Played as Line
use Rattle.reading.specs.Answers.{Read}
use Rattle.reading.specs.Answers as Track
use Rattle.answers.specs.declared.NumberAt.{NumberAt}

-- a text's refusal, by its number
abbrev pub numbered : RefusedAt → NumberAt
numbered r = record { number = number r.refusal; line = r.line }

-- what a step tells
unfoldable pub answer_numbered : Result Shown ℕ → Answer
answer_numbered (Ok s) = Step.Accepted s
answer_numbered (Err n) = Step.Refused n

-- what a script's line tells
unfoldable pub played_numbered : Result (Option PlayedStep) ℕ → Played
played_numbered (Ok (Some s)) = Line.Stepped s.event s.next
played_numbered (Ok None) = Line.End
played_numbered (Err n) = Line.Refused n

-- what a table's text tells
unfoldable pub checked_numbered : Result TableCounts NumberAt → Checked
checked_numbered (Ok counts) = Table.Accepted counts
checked_numbered (Err r) = Table.Refused r.number r.line

-- what a saved text tells
unfoldable pub read_numbered : Result GraphCounts NumberAt → Read
read_numbered (Ok counts) = Track.Accepted counts
read_numbered (Err r) = Track.Refused r.number r.line
