-- `drawing::keep` meets its contract: it puts an event node where there is room for it, and counts
-- it. Assumes nothing.
use Rattle.std.proofs.Common.{◌∙◌}
use Rattle.drawing.proofs.Laws.{met_counted, met_put, met_left_out}
use Rattle.drawing.proofs.keep.Goals as goal
use Rattle.drawing.proofs.keep.Goals.{then-at-lt-NODE_ROOM, else-at-lt-NODE_ROOM}

pub returns : goal.returns
returns c =
    record {
      value = met_counted _ _ c.sum.ensures;
      track_after = elim c.if-at-lt-NODE_ROOM.branch [
        | then-at-lt-NODE_ROOM w ↦ w.track-is ∙ met_put _ _ _ w.if-at-lt-NODE_ROOM.true _ w.put_track.ensures
        | else-at-lt-NODE_ROOM w ↦ w.track-is ∙ met_left_out _ _ _ w.if-at-lt-NODE_ROOM.false
      ];
    }
