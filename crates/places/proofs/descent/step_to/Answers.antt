-- `places::descent::step_to` meets its contract: a step by the number of subterms and the side that the aim
-- stands on. Assumes nothing.
use Rattle.places.proofs.Ways.{step_only, step_second, step_first}
use Rattle.places.proofs.descent.step_to.Goals as goal

pub returns-then-count-ne2 : goal.returns-then-count-ne2
returns-then-count-ne2 c = step_only _ _ _ _ c.if-count-ne2.true

pub returns-then-second-to : goal.returns-then-second-to
returns-then-second-to c = step_second _ _ _ _ c.if-count-ne2.false _ c.after_of-second.ensures c.if-second-to.true

pub returns : goal.returns
returns c = step_first _ _ _ _ c.if-count-ne2.false _ c.after_of-second.ensures c.if-second-to.false
