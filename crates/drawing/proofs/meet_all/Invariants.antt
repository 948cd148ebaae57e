-- `drawing::meet_all` meets its contract: what is kept so far, with the meetings of the event nodes
-- from number i on, is what all of them keep. Assumes nothing.
use Rattle.std.proofs.Common.{◌-◌, ◌≡◌}
use Rattle.drawing.specs.code.Drawing.{met_all}
use Rattle.drawing.proofs.meet_all.Given as goal

abbrev pub invariant-loop-i : goal.invariant-loop-i
invariant-loop-i l = met_all l.i (l.middle - l.i) l.middle (l.to - l.middle) l.kept l.track
    ≡ met_all l.initial.i (l.middle - l.initial.i) l.middle (l.to - l.middle) l.initial.kept l.initial.track
