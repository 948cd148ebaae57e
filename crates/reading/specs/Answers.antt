-- What reading comes to, by document 01's numbers of refusal, and what an answer of code tells of it.
use Rattle.std.specs.Prelude.{ℕ, Result, Ok, Err}
use Rattle.lines.specs.Refusal.{number}
use Rattle.lines.specs.declared.RefusedAt.{RefusedAt}
use Rattle.links.specs.declared.GraphCounts.{GraphCounts}

-- the counts of the graph that was read; or a refusal's number and line
pub data Read : Type 0 where
  Accepted : GraphCounts → Read
  Refused : ℕ → ℕ → Read

-- what an answer tells
unfoldable pub read_told : Result GraphCounts RefusedAt → Read
read_told (Ok c) = Accepted c
read_told (Err e) = Refused (number e.refusal) e.line
