-- `answers::of_status` meets its contract: each arm knows the status. Assumes nothing.
use Rattle.std.proofs.Common.{sym, ap}
use Rattle.answers.specs.Numbers.{of_status}
use Rattle.answers.proofs.of_status.Goals as goal

pub returns-in-Live : goal.returns-in-Live
unfolding of_status
returns-in-Live c = sym (ap of_status c.in-Live.is)

pub returns-in-Ended : goal.returns-in-Ended
unfolding of_status
returns-in-Ended c = sym (ap of_status c.in-Ended.is)

pub returns-in-Stuck : goal.returns-in-Stuck
unfolding of_status
returns-in-Stuck c = sym (ap of_status c.in-Stuck.is)
