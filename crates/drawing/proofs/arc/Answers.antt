-- `drawing::arc` meets its contract: it puts both words of an arc where there is room for it, and
-- counts it. Assumes nothing.
use Rattle.std.proofs.Common.{◌∙◌}
use Rattle.drawing.proofs.Laws.{arc_counted, arc_put, arc_left_out}
use Rattle.drawing.proofs.arc.Goals as goal
use Rattle.drawing.proofs.arc.Goals.{then-at-lt-ARC_ROOM, else-at-lt-ARC_ROOM}

pub returns : goal.returns
returns c =
    record {
      value = arc_counted _ _ c.sum.ensures;
      track_after = elim c.if-at-lt-ARC_ROOM.branch [
        | then-at-lt-ARC_ROOM w ↦
            w.track-is
            ∙ arc_put _ _ _ _ w.if-at-lt-ARC_ROOM.true _ _ w.put_track.ensures w.put_track-then-at-lt-ARC_ROOM.ensures
        | else-at-lt-ARC_ROOM w ↦ w.track-is ∙ arc_left_out _ _ _ _ w.if-at-lt-ARC_ROOM.false
      ];
    }
