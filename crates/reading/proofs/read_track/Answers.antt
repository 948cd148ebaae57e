-- `reading::read_track` meets its contract: what is judged is the answer, the columns are handed over by it, and the scratch is
-- all 0 behind each of the two. Assumes nothing.
use Rattle.std.proofs.Common.{ℕ, List, ap}
use Rattle.reading.proofs.Promises.{handed_over, reads}
use Rattle.links.specs.declared.Work.{Work}
use Rattle.reading.proofs.read_track.Goals as goal

-- what a work holds, with other marks and another spare track
abbrev behind_marks : List ℕ → List ℕ → Work → Work
behind_marks marks spare w =
    record { graph = w.graph; marks = marks; sides = w.sides; pending = w.pending; numbers = w.numbers; spare = spare }

pub returns : goal.returns
returns c =
    let judged = c.judge-judged.ensures in
    let over = c.hand_over.ensures in
    let left = handed_over _ _ _ _ _ _ _ _ judged.held over.labels_after over.graph_after in
    record {
      graph_after = left;
      reads = reads _ _ _ _ _ _ _ _ _ _ _ left;
      work_after = rw (over.marks_after, over.track_after) (ap (behind_marks _ _) judged.work_after);
    }
