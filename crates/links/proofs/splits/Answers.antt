-- `links::splits` meets its contract: both are one test. Assumes nothing.
use Rattle.std.proofs.Common.{arith}
use Rattle.std.proofs.lemmas.Bool.Decides.{nat_tests}
use Rattle.links.specs.code.Linked.{splits}
use Rattle.links.proofs.splits.Goals as goal

pub returns-in-4 : goal.returns-in-4
unfolding splits
returns-in-4 c = grind (arith, nat_tests)

pub returns-in_default : goal.returns-in_default
unfolding splits
returns-in_default c = grind (arith, nat_tests)

pub returns-else-is_own : goal.returns-else-is_own
unfolding splits
returns-else-is_own c = grind (arith, nat_tests)
