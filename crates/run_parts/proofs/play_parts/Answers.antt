-- `run_parts::play_parts` meets its contract: a block that is not filled is told, and else the line is the door's.
-- Assumes nothing.
use Rattle.answers.proofs.Handed.{line_handed}
use Rattle.run_parts.proofs.Laws.{line_untouched, line_played}
use Rattle.run_parts.proofs.play_parts.Goals as goal

pub returns-then-unready-ne-DONE : goal.returns-then-unready-ne-DONE
returns-then-unready-ne-DONE c = line_untouched _ _ _ c.unready-unready.ensures _ _ _ _ _ _ _ _ c.if-unready-ne-DONE.true

pub returns : goal.returns
returns c =
    let told = rw (← line_handed _ _ c.map_err-played.ensures.cases) at c.play.ensures.counters_after in
    line_played _ _ _ c.unready-unready.ensures _ _ _ _ _ _ _ _ _ c.if-unready-ne-DONE.false c.play.ensures.digits_after
    _ _ _ _ told _ _ c.of_played.ensures c.cursor_behind.ensures
