-- `looking::is_side` meets its contract, by the digit. Assumes nothing.
use Rattle.std.proofs.Common.{rules}
use Rattle.looking.specs.code.Looking.{is_side}
use Rattle.looking.proofs.is_side.Goals as goal

pub returns-then-digit-ge1 : goal.returns-then-digit-ge1
unfolding is_side
returns-then-digit-ge1 c = search rules

pub returns-else-digit-ge1 : goal.returns-else-digit-ge1
unfolding is_side
returns-else-digit-ge1 c = search rules
