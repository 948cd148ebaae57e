-- `drawing::meet_each` meets its contract: what is kept so far, with the meetings from number i on,
-- is what all of them keep. Assumes nothing.
use Rattle.std.proofs.Common.{◌-◌, ◌≡◌}
use Rattle.drawing.specs.code.Drawing.{met_each}
use Rattle.drawing.proofs.meet_each.Given as goal

abbrev pub invariant-loop-i : goal.invariant-loop-i
invariant-loop-i l = met_each l.n l.i (l.to - l.i) l.kept l.track ≡ met_each l.n l.initial.i (l.to - l.initial.i) l.initial.kept l.initial.track
