-- `refusals::closing_refusal` meets its contract: at each return the tests before it tell which refusal it is. Assumes nothing.
use Rattle.std.proofs.Common.{arith}
use Rattle.std.proofs.lemmas.Bool.Decides.{nat_tests}
use Rattle.lines.specs.Refusal.{told, number}
use Rattle.frames.specs.TableFrame.{refusal}
use Rattle.refusals.proofs.closing_refusal.Goals as goal

pub returns-then-count-s : goal.returns-then-count-s
unfolding told number refusal
returns-then-count-s c = grind (arith, nat_tests)

pub returns-then-s-gt0 : goal.returns-then-s-gt0
unfolding told number refusal
returns-then-s-gt0 c = grind (arith, nat_tests)

pub returns : goal.returns
unfolding told number refusal
returns c = grind (arith, nat_tests)
