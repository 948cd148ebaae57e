-- `drawing::stand` meets its contract, word by word. Assumes nothing.
use Rattle.drawing.proofs.Laws.{standing_put}
use Rattle.drawing.proofs.stand.Goals as goal

pub returns : goal.returns
returns c =
    standing_put _ _ _ _ _ _ _ _ c.put.ensures
    c.put-2.ensures c.put-3.ensures
