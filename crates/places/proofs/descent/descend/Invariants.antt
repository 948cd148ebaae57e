-- `places::descent::descend` meets its contract. The loop's invariant: halfway, the digits so far stand in a copy of the
-- lent array, which is untouched, and the rest of the way is the one from here on. The measure is how many digits may
-- still come. Assumes nothing.
use Rattle.std.proofs.Common.{◌-◌}
use Rattle.places.proofs.Ways.{Halfway}
use Rattle.places.proofs.descent.descend.Given as goal

abbrev pub invariant-loop-here : goal.invariant-loop-here
invariant-loop-here l = Halfway l.most l.table.kinds l.table.after l.from l.to l.initial.path l.path l.way l.here l.depth

abbrev pub decreases-loop-here : goal.decreases-loop-here
decreases-loop-here l = l.most - l.depth
