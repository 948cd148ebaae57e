-- `counting::tally_of` meets its contract: each number is the counter of its name. Assumes nothing.
use Rattle.std.proofs.Common.{refl}
use Rattle.counting.proofs.Laws.{tallied}
use Rattle.counting.proofs.tally_of.Goals as goal

pub returns : goal.returns
returns c =
    tallied _ _ _ _ _ c.counter.ensures c.counter-2.ensures
    c.counter-3.ensures c.counter-4.ensures _ refl
