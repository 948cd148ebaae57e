-- `looking::beyond` meets its contract, by whether the plan has a sequence around the term.
-- Assumes nothing.
use Rattle.std.proofs.Common.{rules}
use Rattle.control.specs.words.Control as Control
use Rattle.looking.proofs.beyond.Goals as goal

pub returns-then-around_of-eq0 : goal.returns-then-around_of-eq0
unfolding Control.beyond
returns-then-around_of-eq0 c = search rules

pub returns-else-around_of-eq0 : goal.returns-else-around_of-eq0
unfolding Control.beyond
returns-else-around_of-eq0 c = search rules
