-- `refusals::opening_outside` meets its contract: the tests are those of line 1's number, each told the other way. Assumes nothing.
use Rattle.std.proofs.Common.{arith}
use Rattle.std.proofs.lemmas.Bool.Decides.{nat_tests}
use Rattle.frames.specs.TableFrame.{first_refusal}
use Rattle.refusals.proofs.opening_outside.Goals as goal

pub returns-then-definitions-gt-MOST_DEFINITIONS : goal.returns-then-definitions-gt-MOST_DEFINITIONS
unfolding first_refusal
returns-then-definitions-gt-MOST_DEFINITIONS c = grind (arith, nat_tests)

pub returns-else-definitions-gt-MOST_DEFINITIONS : goal.returns-else-definitions-gt-MOST_DEFINITIONS
unfolding first_refusal
returns-else-definitions-gt-MOST_DEFINITIONS c = grind (arith, nat_tests)
