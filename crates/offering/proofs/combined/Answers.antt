-- `offering::combined` meets its contract: of a parallel, and of a choice. Assumes nothing.
use Rattle.offering.proofs.Returns.{combined_parallel, combined_choice}
use Rattle.offering.proofs.combined.Goals as goal

pub returns-then-kind-eq-PARALLEL_WORD : goal.returns-then-kind-eq-PARALLEL_WORD
returns-then-kind-eq-PARALLEL_WORD c =
    let a = c.args in
    combined_parallel _ a.set a.both a.l a.r _ c.if-kind-eq-PARALLEL_WORD.true c.shared.ensures

pub returns : goal.returns
returns c =
    let a = c.args in
    combined_choice _ a.set a.both a.l a.r _ c.if-kind-eq-PARALLEL_WORD.false c.either.ensures
