-- `marks::own_mark` meets its contract: the sum is the definition's, within bounds. Assumes nothing.
use Rattle.std.proofs.Common.{refl}
use Rattle.marks.specs.words.Mark.{own_mark}
use Rattle.marks.proofs.own_mark.Goals as goal

pub returns : goal.returns
unfolding own_mark
returns c = refl
