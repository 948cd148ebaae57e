-- `answers::of_played` meets its contract: each arm knows what the line came to. Assumes nothing.
use Rattle.std.proofs.Common.{Ok, sym, ap, ◌∙◌}
use Rattle.answers.specs.Numbered.{played_numbered}
use Rattle.answers.specs.Numbers.{of_played}
use Rattle.answers.proofs.of_played.Goals as goal

pub returns-in-Ok-Some : goal.returns-in-Ok-Some
unfolding of_played played_numbered
returns-in-Ok-Some c =
    let which = rw c.in-Ok-Some.is at c.in-Ok-Some.field-0-is in
    c.of_event.ensures ∙ sym (ap (λ p. of_played (played_numbered p)) (c.in-Ok-Some.is ∙ ap (λ o. Ok o) which))

pub returns-in-Ok-None : goal.returns-in-Ok-None
unfolding of_played played_numbered
returns-in-Ok-None c =
    let which = rw c.in-Ok-None.is at c.in-Ok-None.field-0-is in
    sym (ap (λ p. of_played (played_numbered p)) (c.in-Ok-None.is ∙ ap (λ o. Ok o) which))

pub returns-in-Err : goal.returns-in-Err
unfolding of_played played_numbered
returns-in-Err c = c.of_refusal.ensures ∙ sym (ap (λ p. of_played (played_numbered p)) c.in-Err.is)
