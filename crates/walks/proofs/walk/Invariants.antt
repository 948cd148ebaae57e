-- `walks::walk` meets its contract. Both loops keep that the walk is underway: what is numbered, with the walk of what is
-- pending, is the whole walk. The outer measure is how many numbers are left, the inner one how many references are pending.
-- Assumes nothing.
use Rattle.std.proofs.Common.{◌-◌}
use Rattle.control.specs.words.Words.{reference_room}
use Rattle.walks.proofs.Turns.{Underway}
use Rattle.walks.proofs.walk.Given as goal

abbrev pub invariant-loop-top : goal.invariant-loop-top
invariant-loop-top l = Underway l.marks l.sides l.numbers l.labels l.pending l.top l.count

abbrev pub decreases-loop-top : goal.decreases-loop-top
decreases-loop-top l = l.top

abbrev pub invariant-walk : goal.invariant-walk
invariant-walk l = Underway l.marks l.sides l.numbers l.labels l.pending l.top l.count

abbrev pub decreases-walk : goal.decreases-walk
decreases-walk l = reference_room - l.count
