-- `offers::offers` meets its contract: τ alone at the start, and else what is told at the reference; of a
-- control that is what it offers. Assumes nothing.
use Rattle.std.proofs.Common.{◌∙◌, arith}
use Rattle.rules.specs.Run.{cell_room}
use Rattle.offers.proofs.Returns.{offered_start, offered_there}
use Rattle.offers.proofs.Runs.{run_tells}
use Rattle.offers.proofs.offers.Goals as goal

pub returns-then-reference-eq0 : goal.returns-then-reference-eq0
returns-then-reference-eq0 c =
    let told = c.unseen.ensures ∙ offered_start _ _ _ _ c.if-reference-eq0.true in
    record { result_value = told; tells_offers = λ l P low is. run_tells l _ _ _ low _ P _ told is }

pub returns-else-reference-eq0 : goal.returns-else-reference-eq0
returns-else-reference-eq0 c =
    let told = c.offers_at.ensures cell_room (omega arith) ∙ offered_there _ _ _ _ c.if-reference-eq0.false in
    record { result_value = told; tells_offers = λ l P low is. run_tells l _ _ _ low _ P _ told is }
