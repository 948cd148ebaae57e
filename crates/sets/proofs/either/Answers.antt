-- `sets::either` meets its contract: a bit of `l | r` is a bit of either. Assumes nothing.
use Rattle.sets.proofs.Bits.{member_or}
use Rattle.sets.proofs.either.Goals as goal

pub returns : goal.returns
returns c k = member_or k c.args.l c.args.r
