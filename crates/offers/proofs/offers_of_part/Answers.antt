-- `offers::offers_of_part` meets its contract: what is told at the part's reference, which of a part of a control is
-- what it offers. Assumes nothing.
use Rattle.std.proofs.Common.{arith}
use Rattle.rules.specs.Run.{cell_room}
use Rattle.offers.proofs.Runs.{part_tells}
use Rattle.offers.proofs.offers_of_part.Goals as goal

pub returns : goal.returns
returns c =
    let told = c.offers_at.ensures cell_room (omega arith) in
    record { result_value = told; tells_offers = λ l P low is. part_tells l _ _ _ low _ _ _ P _ told is }
