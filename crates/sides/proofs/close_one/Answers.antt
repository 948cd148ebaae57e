-- `sides::close_one` meets its contract, by whether the split stays. Assumes nothing.
use Rattle.sides.proofs.Laws.{one_stays, one_resolves}
use Rattle.sides.proofs.close_one.Goals as goal

pub returns-then-stays : goal.returns-then-stays
returns-then-stays c =
    one_stays _ _ _ _ _ _ _ _ _ _ _ _ _ c.word-t.ensures
    c.kind_of-kind.ensures c.stays.ensures c.if-stays.true _ _ _
    _ c.put_side.ensures c.shown.ensures
    c.less.ensures c.sum.ensures

pub returns : goal.returns
returns c =
    one_resolves _ _ _ _ _ _ _ _ _ _ _ _ _ c.word-t.ensures
    c.kind_of-kind.ensures c.stays.ensures c.if-stays.false _ _ _
    _ _ c.word-frame.ensures
    c.less-2.ensures
    c.less-3.ensures
    c.less-rest.ensures
    c.sum-2.ensures _ _ _ c.settle.ensures
