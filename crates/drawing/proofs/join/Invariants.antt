-- `drawing::join` meets its contract: what is kept so far, with the parents among the arcs that are
-- left, is what all of them keep. Assumes nothing.
use Rattle.std.proofs.Common.{◌-◌, ◌≡◌}
use Rattle.drawing.specs.code.Drawing.{joined}
use Rattle.drawing.proofs.join.Given as goal

abbrev pub invariant-loop-i : goal.invariant-loop-i
invariant-loop-i l =
    joined l.first l.second l.to l.i (l.fn.tally.arcs - l.i) l.kept l.track
    ≡ joined l.first l.second l.to 0 l.fn.tally.arcs l.fn.tally l.fn.track
