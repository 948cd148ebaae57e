-- `lines::part_of` meets its contract: the tests tell whether the text has the part, and each `return`
-- hands out the part or what stands behind the text's end, which is nothing. Assumes nothing.
use Rattle.lines.proofs.Laws.{part_some, part_backward, part_past}
use Rattle.lines.proofs.part_of.Goals as goal

pub returns-then-end-at : goal.returns-then-end-at
returns-then-end-at c = part_backward _ _ _ c.if-end-at.true

pub returns-then-n-end : goal.returns-then-n-end
returns-then-n-end c = part_past _ _ _ c.if-end-at.false c.if-n-end.true

pub returns : goal.returns
returns c = part_some _ _ _ c.if-end-at.false c.if-n-end.false
