-- `listing::put_stop` meets its contract: no refusal tells nothing, and a refusal has a number, which is told. Assumes nothing.
use Rattle.std.proofs.Common.{ap}
use Rattle.lines.specs.Refusal.{met}
use Rattle.lines.proofs.Refusals.{number_not_0}
use Rattle.listing.proofs.Lines.{stop_none, stop_told}
use Rattle.listing.proofs.put_stop.Goals as goal

pub returns-in-None : goal.returns-in-None
unfolding met
returns-in-None c = stop_none _ _ (ap met c.in-None.is)

pub returns-in-Some : goal.returns-in-Some
unfolding met
returns-in-Some c = rw (c.in-Some.is, stop_told _ _ (number_not_0 _)) (rw c.number.ensures at c.put_refusal.ensures)
