-- `answers::of_saved` meets its contract: each arm knows what writing came to. Assumes nothing.
use Rattle.std.proofs.Common.{sym, ap, ◌∙◌}
use Rattle.lines.specs.Refusal.{number}
use Rattle.writing.specs.Answers.{saved_told}
use Rattle.answers.specs.Numbers.{of_saved, of_refusal}
use Rattle.answers.proofs.of_saved.Goals as goal

pub returns-in-Ok : goal.returns-in-Ok
unfolding of_saved saved_told
returns-in-Ok c = sym (ap (λ s. of_saved (saved_told s)) c.in-Ok.is)

pub returns-in-Err : goal.returns-in-Err
unfolding of_saved saved_told number
returns-in-Err c = c.of_refusal.ensures ∙ ap of_refusal c.number.ensures ∙ sym (ap (λ s. of_saved (saved_told s)) c.in-Err.is)
