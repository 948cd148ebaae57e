-- `sets::empty` meets its contract: 0 has no bit, and any other number has one. Assumes nothing.
use Rattle.sets.proofs.Told.{empty_told}
use Rattle.sets.proofs.empty.Goals as goal

pub returns : goal.returns
returns c = empty_told c.args.set
