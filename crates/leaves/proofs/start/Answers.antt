-- `leaves::start` meets its contract: the sequence is labelled, and its right stands at a fresh
-- reference. Assumes nothing.
use Rattle.std.proofs.Common.{refl}
use Rattle.leaves.proofs.Laws.{start_made}
use Rattle.leaves.proofs.start.Goals as goal

pub returns : goal.returns
returns c =
    start_made _ _ _ _ _ _ _ _ _ (c.label.ensures.value, c.label.ensures.nodes_after) (c.draw-drawn.ensures.value, c.draw-drawn.ensures.track_after) _ _ refl
    refl _ c.own_mark.ensures _ _ _ _ _
    c.second_of.ensures c.stand.ensures
    c.less.ensures c.come.ensures
