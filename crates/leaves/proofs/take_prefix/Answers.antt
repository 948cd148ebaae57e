-- `leaves::take_prefix` meets its contract: its event's node and its arrow's are labelled, the
-- first is kept, and what is behind it stands at a fresh reference. Assumes nothing.
use Rattle.leaves.proofs.Laws.{prefix_made}
use Rattle.leaves.proofs.take_prefix.Goals as goal

pub returns : goal.returns
returns c =
    prefix_made _ _ _ _ _ _ _ _ _ _ _ _ _ _ _ _ (c.label.ensures.value, c.label.ensures.nodes_after)
    (c.draw-first.ensures.value, c.draw-first.ensures.track_after) (c.label-2.ensures.value, c.label-2.ensures.nodes_after) (c.draw-second.ensures.value, c.draw-second.ensures.track_after)
    (c.keep-kept.ensures.value, c.keep-kept.ensures.track_after) _
    c.event_mark.ensures
    c.own_mark.ensures _ _ _ _ _ _ _
    c.sum.ensures c.stand.ensures
    c.come.ensures
