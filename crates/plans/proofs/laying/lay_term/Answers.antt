-- `plans::laying::lay_term` meets its contract, by how many subterms there are. Assumes nothing.
use Rattle.plans.proofs.Laid.{laid_none, laid_one, laid_two}
use Rattle.plans.proofs.laying.lay_term.Goals as goal

pub returns-then-count-eq0 : goal.returns-then-count-eq0
returns-then-count-eq0 c = laid_none _ _ _ _ _ _ _ c.put_own.ensures c.subterms-count.ensures c.if-count-eq0.true

pub returns-then-count-eq1 : goal.returns-then-count-eq1
returns-then-count-eq1 c =
    let room = c.requires in
    laid_one _ _ _ _ _ _ _ c.put_own.ensures c.subterms-count.ensures _ _ room
    c.inward-inside.ensures c.put.ensures c.if-count-eq1.true

pub returns : goal.returns
returns c =
    let room = c.requires in
    laid_two _ _ _ _ _ _ _ c.put_own.ensures c.subterms-count.ensures _ _ room
    c.inward-inside.ensures c.put.ensures _ _ c.through-passed.ensures (rw c.from.ensures at c.put-2.ensures)
    c.if-count-eq0.false c.if-count-eq1.false
