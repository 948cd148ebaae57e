-- Document 01, 'Numbers of refusal': what the answer of a table's check tells.
use Rattle.std.specs.Prelude.{ℕ, Result, Ok, Err}
use Rattle.lines.specs.Refusal.{number}
use Rattle.lines.specs.declared.RefusedAt.{RefusedAt}
use Rattle.tables.specs.declared.TableCounts.{TableCounts}

-- what a table's text is: accepted, with how much the table holds; or refused, by the number of the refusal and the line
pub data Checked : Type 0 where
  Accepted : TableCounts → Checked
  Refused : ℕ → ℕ → Checked

-- what an answer of the code tells
unfoldable pub checked_told : Result TableCounts RefusedAt → Checked
checked_told (Ok n) = Accepted n
checked_told (Err e) = Refused (number e.refusal) e.line
