-- `track_parts::read_parts` meets its contract: a block that is not filled is told, and else the track is the door's, with all
-- room to work in cleared.
-- Assumes nothing.
use Rattle.std.proofs.Common.{ap, ◌∙◌}
use Rattle.answers.specs.Numbered.{read_numbered}
use Rattle.answers.proofs.Handed.{track_handed}
use Rattle.answers.proofs.Judged.{track_judged, track_line_of}
use Rattle.track_parts.proofs.Laws.{read_untouched, read_refused, read_accepted, reading_untouched, reading_cleared}
use Rattle.track_parts.proofs.read_parts.Goals as goal

pub returns-then-head-ne-TABLE_STAMP : goal.returns-then-head-ne-TABLE_STAMP
returns-then-head-ne-TABLE_STAMP c = record { graph_after = read_untouched _ _ _ _ _ _ _ _ _ _ c.if-head-ne-TABLE_STAMP.true; work_after = reading_untouched _ _ c.if-head-ne-TABLE_STAMP.true }

pub returns-in_default : goal.returns-in_default
unfolding read_numbered
returns-in_default c =
    let stamped = c.if-head-ne-TABLE_STAMP.false in
    let told = rw (← track_handed _ _ c.map_err-read.ensures.cases) at c.read_track.ensures.graph_after in
    record {
      graph_after = read_refused _ _ _ _ _ _ _ _ _ _ stamped _ _ _ told _ (c.line_of.ensures ∙ track_line_of _) _
          (c.of_judged.ensures ∙ track_judged _) _ _ (ap read_numbered c.in_default.is);
      work_after = reading_cleared _ _ stamped _ c.read_track.ensures.work_after;
    }

pub returns : goal.returns
unfolding read_numbered
returns c =
    let stamped = c.if-head-ne-TABLE_STAMP.false in
    let told = rw (← track_handed _ _ c.map_err-read.ensures.cases) at c.read_track.ensures.graph_after in
    record {
      graph_after = read_accepted _ _ _ _ _ _ _ _ _ _ stamped _ _ _ told _ (c.line_of.ensures ∙ track_line_of _) _
          (ap read_numbered c.in-Ok.is);
      work_after = reading_cleared _ _ stamped _ c.read_track.ensures.work_after;
    }
