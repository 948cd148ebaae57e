-- `looking::digit_at` meets its contract: past the room, as behind the last digit, there is none.
-- Assumes nothing.
use Rattle.std.proofs.Common.{arith}
use Rattle.std.proofs.lemmas.Grind.{common_steps}
use Rattle.columns.proofs.Laws.{look_whole}
use Rattle.looking.proofs.LookLaws.{digit_behind, digit_told}
use Rattle.looking.proofs.digit_at.Goals as goal

pub returns-then-at-count : goal.returns-then-at-count
returns-then-at-count c =
    rw (digit_told _ _ _ c.if-at-count.true, look_whole _ _ c.args.at c.told-digits) (grind (arith, common_steps))

pub returns-else-at-count : goal.returns-else-at-count
returns-else-at-count c = digit_behind _ _ _ c.if-at-count.false
