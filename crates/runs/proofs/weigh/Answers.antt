-- `runs::weigh` meets its contract, by whether the run has started. Assumes nothing.
use Rattle.runs.proofs.Laws.{weight_start, weight_on}
use Rattle.runs.proofs.weigh.Goals as goal

pub returns-then-reference-eq0 : goal.returns-then-reference-eq0
returns-then-reference-eq0 c =
    weight_start _ _ _ _ _ _ _ c.counter-reference.ensures c.if-reference-eq0.true _ _
    c.start_weight.ensures

pub returns : goal.returns
returns c =
    weight_on _ _ _ _ _ _ _ c.counter-reference.ensures c.if-reference-eq0.false _
    c.counter-cells.ensures _ _ c.counter-arcs.ensures _ c.weigh_at.ensures
