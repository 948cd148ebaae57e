-- `refusals::term_refusal` meets its contract: at each return the tests before it tell which refusal it is. Assumes nothing.
use Rattle.std.proofs.Common.{arith}
use Rattle.std.proofs.lemmas.Bool.Decides.{nat_tests}
use Rattle.lines.specs.Refusal.{told, number}
use Rattle.frames.specs.TableFrame.{refusal}
use Rattle.refusals.proofs.term_refusal.Goals as goal

pub returns-then-s-eq0 : goal.returns-then-s-eq0
unfolding told number refusal
returns-then-s-eq0 c = grind (arith, nat_tests)

pub returns-then-over_limit : goal.returns-then-over_limit
unfolding told number refusal
returns-then-over_limit c = grind (arith, nat_tests)

pub returns-then-s-eq0-2 : goal.returns-then-s-eq0-2
unfolding told number refusal
returns-then-s-eq0-2 c = grind (arith, nat_tests)

pub returns-then-s-ge-TERM_ROOM : goal.returns-then-s-ge-TERM_ROOM
unfolding told number refusal
returns-then-s-ge-TERM_ROOM c = grind (arith, nat_tests)

pub returns : goal.returns
unfolding told number refusal
returns c = grind (arith, nat_tests)
