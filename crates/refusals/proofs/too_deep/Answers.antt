-- `refusals::too_deep` meets its contract. A prefix's event is one digit below the prefix, and any other term's literals
-- are where the term is. Assumes nothing.
use Rattle.std.proofs.Common.{arith}
use Rattle.std.proofs.lemmas.Bool.Decides.{nat_tests}
use Rattle.frames.specs.TableFrame.{longest}
use Rattle.refusals.proofs.too_deep.Goals as goal

pub returns-in-2 : goal.returns-in-2
unfolding longest
returns-in-2 c = grind (arith, nat_tests)

pub returns-in_default : goal.returns-in_default
unfolding longest
returns-in_default c = grind (arith, nat_tests)
