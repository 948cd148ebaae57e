-- `sets::shared` meets its contract: what it computes is, member by member, what a parallel shows.
-- Assumes nothing.
use Rattle.sets.proofs.Told.{shown_told}
use Rattle.sets.proofs.shared.Goals as goal

pub returns : goal.returns
returns c = shown_told c.args.x c.args.l c.args.r
