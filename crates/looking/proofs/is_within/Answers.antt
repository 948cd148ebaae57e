-- `looking::is_within` meets its contract, by the frame and the plan. Assumes nothing.
use Rattle.std.proofs.Common.{rules}
use Rattle.looking.specs.code.Looking.{is_within}
use Rattle.looking.proofs.is_within.Goals as goal

pub returns-then-nested : goal.returns-then-nested
unfolding is_within
returns-then-nested c = search rules

pub returns-else-nested : goal.returns-else-nested
unfolding is_within
returns-else-nested c = search rules
