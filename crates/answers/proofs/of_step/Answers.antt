-- `answers::of_step` meets its contract: each arm knows the answer. Assumes nothing.
use Rattle.std.proofs.Common.{sym, ap, ◌∙◌}
use Rattle.answers.specs.Numbered.{answer_numbered}
use Rattle.answers.specs.Numbers.{of_step}
use Rattle.answers.proofs.of_step.Goals as goal

pub returns-in-Ok : goal.returns-in-Ok
unfolding of_step answer_numbered
returns-in-Ok c = c.of_event.ensures ∙ sym (ap (λ a. of_step (answer_numbered a)) c.in-Ok.is)

pub returns-in-Err : goal.returns-in-Err
unfolding of_step answer_numbered
returns-in-Err c = c.of_refusal.ensures ∙ sym (ap (λ a. of_step (answer_numbered a)) c.in-Err.is)
