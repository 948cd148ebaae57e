-- `run_parts::status_parts` meets its contract: a block that is not filled is told, and else the status is the door's.
-- Assumes nothing.
use Rattle.run_parts.proofs.Laws.{status_untouched, status_found}
use Rattle.run_parts.proofs.status_parts.Goals as goal

pub returns-then-unready-ne-DONE : goal.returns-then-unready-ne-DONE
returns-then-unready-ne-DONE c = status_untouched _ _ _ c.unready-unready.ensures _ _ _ _ c.if-unready-ne-DONE.true

pub returns : goal.returns
returns c =
    status_found _ _ _ c.unready-unready.ensures _ _ _ _ c.if-unready-ne-DONE.false _
    c.from.ensures _ c.status_at.ensures.value _ c.of_status.ensures
