-- `answers::of_event` meets its contract: each arm knows the event. Assumes nothing.
use Rattle.std.proofs.Common.{◌+◌, sym, ap, ◌∙◌}
use Rattle.answers.specs.Numbers.{of_event}
use Rattle.answers.proofs.of_event.Goals as goal

pub returns-in-Tau : goal.returns-in-Tau
unfolding of_event
returns-in-Tau c = sym (ap of_event c.in-Tau.is)

pub returns-in-Tick : goal.returns-in-Tick
unfolding of_event
returns-in-Tick c = sym (ap of_event c.in-Tick.is)

pub returns-in-Visible : goal.returns-in-Visible
unfolding of_event
returns-in-Visible c = ap (λ k. 2 + k) c.from.ensures ∙ sym (ap of_event c.in-Visible.is)
