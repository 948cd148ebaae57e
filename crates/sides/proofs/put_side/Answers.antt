-- `sides::put_side` meets its contract, word by word. Assumes nothing.
use Rattle.sides.proofs.Laws.{side_put}
use Rattle.sides.proofs.put_side.Goals as goal

pub returns : goal.returns
returns c = side_put _ _ _ _ _ _ _ c.put.ensures c.put-2.ensures
