-- `leaves::settle` meets its contract, by the event, and by what is around the term: a sequence in
-- the plan, nothing up to the frame that ends it, or a sequence behind its frame. Assumes nothing.
use Rattle.leaves.proofs.Laws.{settled_on, settled_last, settled_plan, settled_frame}
use Rattle.leaves.proofs.settle.Goals as goal

pub returns-in_default : goal.returns-in_default
returns-in_default c = settled_on _ _ _ _ _ _ _ c.in_default.not-Tick

pub returns-then-around-ne0 : goal.returns-then-around-ne0
returns-then-around-ne0 c =
    settled_plan _ _ _ _ _ _ _ c.in-Tick.is _
    c.around_of-around.ensures _ _ _ _ c.if-around-ne0.true c.less.ensures
    c.start.ensures

pub returns-then-frame-bound : goal.returns-then-frame-bound
returns-then-frame-bound c =
    settled_last _ _ _ _ _ _ _ c.in-Tick.is _
    c.around_of-around.ensures c.if-around-ne0.false c.if-frame-bound.true

pub returns : goal.returns
returns c =
    settled_frame _ _ _ _ _ _ _ c.in-Tick.is _
    c.around_of-around.ensures _ _ _ _ c.if-around-ne0.false c.if-frame-bound.false _ _ _
    c.word.ensures
    c.around_of-outer.ensures
    c.less-2.ensures c.word-behind.ensures
    c.start-2.ensures
