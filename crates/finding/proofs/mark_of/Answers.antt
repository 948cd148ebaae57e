-- `finding::mark_of` meets its contract, by the line's number and whether it is node 0's. Assumes nothing.
use Rattle.finding.proofs.NodeLine.{mark_other, mark_start, mark_found}
use Rattle.finding.proofs.mark_of.Goals as goal

pub returns-then-number_at-k : goal.returns-then-number_at-k
returns-then-number_at-k c = mark_other _ _ _ _ _ c.number_at.ensures.value c.if-number_at-k.true

pub returns-then-k-eq0 : goal.returns-then-k-eq0
returns-then-k-eq0 c =
    mark_start _ _ _ _ _ c.number_at.ensures.value
    c.if-number_at-k.false c.if-k-eq0.true
    c.start_mark.ensures

pub returns : goal.returns
returns c =
    mark_found _ _ _ _ _ c.number_at.ensures.value
    c.if-number_at-k.false c.if-k-eq0.false
    c.byte_at.ensures.value c.root_of.ensures c.find.ensures
