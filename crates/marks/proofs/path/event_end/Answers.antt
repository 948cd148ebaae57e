-- `marks::path::event_end` meets its contract: a mark fits a word. Assumes nothing.
use Rattle.std.proofs.Common.{arith}
use Rattle.marks.proofs.Laws.{event_small}
use Rattle.marks.proofs.path.event_end.Goals as goal

pub overflow_cast-result : goal.overflow_cast-result
overflow_cast-result c = omega (arith, c.event_mark.ensures, event_small c.args.term)
