-- `marks::is_event` meets its contract: the second test counts only where the first holds. Assumes nothing.
use Rattle.std.proofs.Common.{le-leb}
use Rattle.std.proofs.lemmas.Bool.{lt-leb}
use Rattle.marks.specs.words.Mark.{is_event}
use Rattle.marks.proofs.is_event.Goals as goal

pub returns-then-mark-ge2 : goal.returns-then-mark-ge2
unfolding is_event
returns-then-mark-ge2 c = simp (le-leb 2 _ c.if-mark-ge2.true)

pub returns-else-mark-ge2 : goal.returns-else-mark-ge2
unfolding is_event
returns-else-mark-ge2 c = simp (lt-leb 2 _ c.if-mark-ge2.false)
