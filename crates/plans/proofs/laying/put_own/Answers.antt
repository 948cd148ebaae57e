-- `plans::laying::put_own` meets its contract: three words put. Assumes nothing.
use Rattle.plans.proofs.Laid.{own_put}
use Rattle.plans.proofs.laying.put_own.Goals as goal

pub returns : goal.returns
returns c = own_put _ _ _ _ _ _ _ _ (rw c.from.ensures at c.put.ensures) c.put-2.ensures c.put-3.ensures
