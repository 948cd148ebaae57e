-- `track_parts::write_parts` meets its contract: a block that is not filled is told, and else the text is the door's.
-- Assumes nothing.
use Rattle.track_parts.proofs.Laws.{write_no_table, write_no_track, write_written}
use Rattle.track_parts.proofs.write_parts.Goals as goal

pub returns-then-head-ne-TABLE_STAMP : goal.returns-then-head-ne-TABLE_STAMP
returns-then-head-ne-TABLE_STAMP c = write_no_table _ _ _ _ _ _ _ _ _ _ c.if-head-ne-TABLE_STAMP.true

pub returns-then-found-ne-TRACK_STAMP : goal.returns-then-found-ne-TRACK_STAMP
returns-then-found-ne-TRACK_STAMP c = write_no_track _ _ _ _ _ _ _ _ _ _ c.if-head-ne-TABLE_STAMP.false c.if-found-ne-TRACK_STAMP.true

pub returns : goal.returns
returns c =
    write_written _ _ _ _ _ _ _ _ _ _ c.if-head-ne-TABLE_STAMP.false c.if-found-ne-TRACK_STAMP.false _ _ c.write-written.ensures _ _
    c.of_saved.ensures c.length_of.ensures
