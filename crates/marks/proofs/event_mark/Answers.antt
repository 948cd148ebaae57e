-- `marks::event_mark` meets its contract: the sum is the definition's, within bounds. Assumes nothing.
use Rattle.std.proofs.Common.{refl}
use Rattle.marks.specs.words.Mark.{event_mark}
use Rattle.marks.proofs.event_mark.Goals as goal

pub returns : goal.returns
unfolding event_mark
returns c = refl
