-- `sides::close_both` meets its contract: its right side is put back, and the event nodes meet.
-- Assumes nothing.
use Rattle.sides.proofs.Laws.{both_made}
use Rattle.sides.proofs.close_both.Goals as goal

pub returns : goal.returns
returns c =
    both_made _ _ _ _ _ _ _ _ _ _ _ _ _ _ _ _
    c.put_side.ensures
    c.less.ensures
    c.less-rest.ensures c.sum.ensures
    c.sum-2.ensures (c.meet_all.ensures.value, c.meet_all.ensures.track_after)
