-- `telling::put_status` meets its contract: the byte of a status's line, and by the status the byte behind it.
-- Assumes nothing.
use Rattle.std.proofs.Common.{arith}
use Rattle.lines.specs.Line.{hex}
use Rattle.telling.specs.ListingFrame.{status_frame}
use Rattle.telling.proofs.Laws.{byte_first}
use Rattle.telling.proofs.put_status.Goals as goal
use Rattle.telling.proofs.put_status.Goals.{in-Live, in-Ended, in-Stuck}

pub put_last-requires : goal.put_last-requires
unfolding hex
put_last-requires c = omega arith

pub returns : goal.returns
unfolding status_frame
returns c =
    let line = byte_first _ _ c.put_byte-a.ensures c.put_last.ensures in
    elim c.match-status.branch [
      | in-Live w ↦ rw w.in-Live.is (rw w.told-is at line)
      | in-Ended w ↦ rw w.in-Ended.is (rw w.told-is at line)
      | in-Stuck w ↦ rw w.in-Stuck.is (rw w.told-is at line)
    ]
