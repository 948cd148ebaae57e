-- What line 1 and later lines come to, by document 01's numbers of refusal, and what an answer of code tells of it.
use Rattle.std.specs.Prelude.{ℕ, Result, Ok, Err}
use Rattle.lines.specs.Refusal.{number}
use Rattle.lines.specs.declared.Refusal.{Refusal}
use Rattle.lines.specs.declared.RefusedAt.{RefusedAt}
use Rattle.opening.specs.declared.TrackOpening.{TrackOpening}

-- line 1: the counts of nodes, arcs and meetings, and where the next line begins; or the number that the line meets
pub data TrackOpened : Type 0 where
  Track : ℕ → ℕ → ℕ → ℕ → TrackOpened
  Fails : ℕ → TrackOpened

-- some lines: they are read, with the next line from here on; or one of them stops the work, by its number and its line
pub data Lines : Type 0 where
  Goes : ℕ → Lines
  Stops : ℕ → ℕ → Lines

-- what an answer for line 1 tells
unfoldable pub opened_told : Result TrackOpening Refusal → TrackOpened
opened_told (Ok o) = Track o.nodes o.arcs o.meetings o.next
opened_told (Err r) = Fails (number r)

-- and one for later lines
unfoldable pub lines_told : Result ℕ RefusedAt → Lines
lines_told (Ok next) = Goes next
lines_told (Err e) = Stops (number e.refusal) e.line
