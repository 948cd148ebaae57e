-- `leaves::call_start` meets its contract: reference 0 is labelled, and the root stands at a fresh
-- reference. Assumes nothing.
use Rattle.std.proofs.Common.{refl}
use Rattle.leaves.proofs.Laws.{called_made}
use Rattle.leaves.proofs.call_start.Goals as goal

pub returns : goal.returns
returns c =
    called_made _ _ _ _ _ _ _ _ _ (c.label.ensures.value, c.label.ensures.nodes_after) (c.draw-drawn.ensures.value, c.draw-drawn.ensures.track_after) refl refl _ _
    c.stand.ensures c.come.ensures
