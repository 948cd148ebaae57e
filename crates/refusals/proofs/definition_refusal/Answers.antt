-- `refusals::definition_refusal` meets its contract: at each return the tests before it tell which refusal it is. Assumes nothing.
use Rattle.std.proofs.Common.{arith}
use Rattle.std.proofs.lemmas.Bool.Decides.{nat_tests}
use Rattle.lines.specs.Refusal.{told, number}
use Rattle.frames.specs.TableFrame.{refusal}
use Rattle.refusals.proofs.definition_refusal.Goals as goal

pub returns-then-number-s : goal.returns-then-number-s
unfolding told number refusal
returns-then-number-s c = grind (arith, nat_tests)

pub returns-then-s-ne0 : goal.returns-then-s-ne0
unfolding told number refusal
returns-then-s-ne0 c = grind (arith, nat_tests)

pub returns : goal.returns
unfolding told number refusal
returns c = grind (arith, nat_tests)
