-- `marks::path::own_here` meets its contract: a mark fits a word. Assumes nothing.
use Rattle.std.proofs.Common.{arith}
use Rattle.marks.proofs.Laws.{own_small}
use Rattle.marks.proofs.path.own_here.Goals as goal

pub overflow_cast-result : goal.overflow_cast-result
overflow_cast-result c = omega (arith, c.own_mark.ensures, own_small c.args.term)
