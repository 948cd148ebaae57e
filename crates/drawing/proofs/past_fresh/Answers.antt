-- `drawing::past_fresh` meets its contract: one more reference is drawn. Assumes nothing.
use Rattle.drawing.proofs.Laws.{fresh_drawn}
use Rattle.drawing.proofs.past_fresh.Goals as goal

pub returns : goal.returns
returns c = fresh_drawn _ _ c.sum.ensures
