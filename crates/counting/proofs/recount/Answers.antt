-- `counting::recount` meets its contract: each counter is what the step tells of it. Assumes nothing.
use Rattle.counting.proofs.Laws.{counted}
use Rattle.counting.proofs.recount.Goals as goal

pub returns : goal.returns
returns c =
    counted _ _ _ _ _ _ _ c.narrow.ensures c.narrow-2.ensures
    c.narrow-3.ensures c.narrow-4.ensures
    c.narrow-5.ensures c.narrow-6.ensures
