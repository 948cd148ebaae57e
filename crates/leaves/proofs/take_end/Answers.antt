-- `leaves::take_end` meets its contract: the parents of both sides get arcs to a fresh reference,
-- where Ω stands, and the ✓ is settled. Assumes nothing.
use Rattle.leaves.proofs.Laws.{end_made}
use Rattle.leaves.proofs.take_end.Goals as goal

pub returns : goal.returns
returns c =
    end_made _ _ _ _ _ _ _ _ _ _
    c.word-first.ensures
    c.word-second.ensures _ _ _ _
    (c.join.ensures.value, c.join.ensures.track_after) c.past_fresh-joined.ensures
    c.stand.ensures _ _ _ _ _ _
    c.less.ensures
    c.sum.ensures
    c.come-ended.ensures
    c.word-t.ensures c.word-frame.ensures
    _ _ c.settle.ensures
