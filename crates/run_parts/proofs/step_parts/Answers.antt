-- `run_parts::step_parts` meets its contract: a block that is not filled is told, and else the step is the door's.
-- Assumes nothing.
use Rattle.lines.specs.Refusal.{number}
use Rattle.answers.proofs.Handed.{step_handed}
use Rattle.run_parts.proofs.Laws.{step_untouched, step_too_long, step_taken}
use Rattle.run_parts.proofs.step_parts.Goals as goal

pub returns-then-unready-ne-DONE : goal.returns-then-unready-ne-DONE
returns-then-unready-ne-DONE c = step_untouched _ _ _ c.unready-unready.ensures _ _ _ _ _ _ _ c.if-unready-ne-DONE.true

pub returns-then-count-gt-DIGIT_ROOM : goal.returns-then-count-gt-DIGIT_ROOM
unfolding number
returns-then-count-gt-DIGIT_ROOM c =
    step_too_long _ _ _ c.unready-unready.ensures _ _ _ _ _ _ _ c.if-unready-ne-DONE.false c.if-count-gt-DIGIT_ROOM.true _
    (rw c.number.ensures at c.of_refusal.ensures)

pub returns : goal.returns
returns c =
    let told = rw (← step_handed _ _ c.map_err.ensures.cases) at c.step.ensures.counters_after in
    step_taken _ _ _ c.unready-unready.ensures _ _ _ _ _ _ _ _ c.if-unready-ne-DONE.false c.if-count-gt-DIGIT_ROOM.false
    c.put_copy.ensures.stands _ _ _ _ told _ c.of_step.ensures
