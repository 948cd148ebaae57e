-- `answers::of_judged` meets its contract: each arm knows what the text is. Assumes nothing.
use Rattle.std.proofs.Common.{sym, ap, ◌∙◌}
use Rattle.answers.specs.Numbers.{of_judged}
use Rattle.answers.proofs.of_judged.Goals as goal

pub returns-in-Ok : goal.returns-in-Ok
unfolding of_judged
returns-in-Ok g c = sym (ap of_judged c.in-Ok.is)

pub returns-in-Err : goal.returns-in-Err
unfolding of_judged
returns-in-Err g c = c.of_refusal.ensures ∙ sym (ap of_judged c.in-Err.is)
