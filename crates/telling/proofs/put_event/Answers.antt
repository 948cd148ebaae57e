-- `telling::put_event` meets its contract: the byte of a step's line, and by the event the bytes behind it.
-- Assumes nothing.
use Rattle.std.proofs.Common.{arith}
use Rattle.lines.specs.Line.{hex}
use Rattle.telling.specs.ListingFrame.{step_frame}
use Rattle.telling.proofs.Laws.{byte_first}
use Rattle.telling.proofs.put_event.Goals as goal
use Rattle.telling.proofs.put_event.Goals.{in-Tau, in-Tick, in-Visible}

pub put_byte-requires : goal.put_byte-requires
unfolding hex
put_byte-requires c = omega arith

pub put_last-requires : goal.put_last-requires
unfolding hex
put_last-requires c =
    elim c.match-event.branch [
      | in-Tau w ↦ rw w.b-is (omega arith)
      | in-Tick w ↦ rw w.b-is (omega arith)
      | in-Visible w ↦ rw w.b-is (omega arith)
    ]

pub returns : goal.returns
unfolding step_frame
returns c =
    let line = c.put_last.ensures in
    elim c.match-event.branch [
      | in-Tau w ↦ rw w.in-Tau.is (byte_first _ _ c.put_byte-a.ensures (rw (w.b-is, w.out-is) at line))
      | in-Tick w ↦ rw w.in-Tick.is (byte_first _ _ c.put_byte-a.ensures (rw (w.b-is, w.out-is) at line))
      | in-Visible w ↦ rw w.in-Visible.is
          (byte_first _ _ c.put_byte-a.ensures (byte_first _ _ w.put_byte.ensures (rw (w.b-is, w.out-is) at line)))
    ]
