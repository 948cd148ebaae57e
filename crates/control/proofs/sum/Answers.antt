-- `control::sum` meets its contract: a sum that saturates is past the most too. Assumes nothing.
use Rattle.std.proofs.Common.{arith}
use Rattle.control.proofs.Capped.{capped_least}
use Rattle.control.proofs.sum.Goals as goal

pub returns : goal.returns
returns c = rw capped_least (omega arith)
