-- `run_parts::offers_parts` meets its contract: a block that is not filled is told, and else what is offered is the door's.
-- Assumes nothing.
use Rattle.run_parts.proofs.Laws.{offers_untouched, offers_found}
use Rattle.run_parts.proofs.offers_parts.Goals as goal

pub returns-then-unready-ne-DONE : goal.returns-then-unready-ne-DONE
returns-then-unready-ne-DONE c = offers_untouched _ _ _ c.unready-unready.ensures _ _ _ _ _ c.if-unready-ne-DONE.true

pub returns : goal.returns
returns c =
    offers_found _ _ _ c.unready-unready.ensures _ _ _ _ _ c.if-unready-ne-DONE.false _
    c.from.ensures _ c.offers-offered.ensures.result_value _ c.of_offers.ensures
