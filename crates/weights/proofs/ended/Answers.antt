-- `weights::ended` meets its contract: it settles the ✓ of two ended sides. Assumes nothing.
use Rattle.weights.proofs.RuleLaws.{ended_settles}
use Rattle.weights.proofs.ended.Goals as goal

pub returns : goal.returns
returns c =
    ended_settles _ _ _ _ _ _ _ c.sum.ensures c.less.ensures
    c.settled.ensures
