-- `runs::perform` meets its contract, by whether the run has started. Assumes nothing.
use Rattle.runs.proofs.Laws.{performed_start, performed_on}
use Rattle.runs.proofs.perform.Goals as goal

pub returns-then-reference-eq0 : goal.returns-then-reference-eq0
returns-then-reference-eq0 c =
    performed_start _ _ _ _ _ _ _ c.counter-reference.ensures c.if-reference-eq0.true _
    c.tally_of-tally.ensures _ _ _ c.call_start.ensures

pub returns : goal.returns
returns c =
    performed_on _ _ _ _ _ _ _ c.counter-reference.ensures c.if-reference-eq0.false _
    c.counter-cells.ensures _ c.tally_of-tally.ensures _ _ _
    c.take.ensures
