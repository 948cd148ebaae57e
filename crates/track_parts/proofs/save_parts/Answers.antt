-- `track_parts::save_parts` meets its contract: a block that is not filled is told, and else the text is the door's, with all
-- room to work in cleared.
-- Assumes nothing.
use Rattle.track_parts.proofs.Laws.{save_untouched, save_written, work_untouched, work_cleared}
use Rattle.track_parts.proofs.save_parts.Goals as goal

pub returns-then-unready-ne-DONE : goal.returns-then-unready-ne-DONE
returns-then-unready-ne-DONE c =
    let told = c.unready-unready.ensures in
    record { text_after = save_untouched _ _ _ told _ _ _ _ _ _ _ _ _ c.if-unready-ne-DONE.true; work_after = work_untouched _ _ _ told _ c.if-unready-ne-DONE.true }

pub returns : goal.returns
returns c =
    let told = c.unready-unready.ensures in
    let ready = c.if-unready-ne-DONE.false in
    record {
      text_after = save_written _ _ _ told _ _ _ _ _ _ _ _ _ ready _ _ c.save-saved.ensures.text_after _ _ c.of_saved.ensures c.length_of.ensures;
      work_after = work_cleared _ _ _ told _ ready _ c.save-saved.ensures.work_after;
    }
