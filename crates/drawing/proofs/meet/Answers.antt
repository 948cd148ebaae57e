-- `drawing::meet` meets its contract: it puts both words of a meeting where there is room for it, and
-- counts it. Assumes nothing.
use Rattle.std.proofs.Common.{◌∙◌}
use Rattle.drawing.proofs.Laws.{meeting_counted, meeting_put, meeting_left_out}
use Rattle.drawing.proofs.meet.Goals as goal
use Rattle.drawing.proofs.meet.Goals.{then-at-lt-MEETING_ROOM, else-at-lt-MEETING_ROOM}

pub returns : goal.returns
returns c =
    record {
      value = meeting_counted _ _ c.sum.ensures;
      track_after = elim c.if-at-lt-MEETING_ROOM.branch [
        | then-at-lt-MEETING_ROOM w ↦
            w.track-is
            ∙ meeting_put _ _ _ _ w.if-at-lt-MEETING_ROOM.true _ _ w.put_track.ensures w.put_track-then-at-lt-MEETING_ROOM.ensures
        | else-at-lt-MEETING_ROOM w ↦ w.track-is ∙ meeting_left_out _ _ _ _ w.if-at-lt-MEETING_ROOM.false
      ];
    }
