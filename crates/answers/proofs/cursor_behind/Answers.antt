-- `answers::cursor_behind` meets its contract: each arm knows what the line came to. Assumes nothing.
use Rattle.std.proofs.Common.{Ok, sym, ap, ◌∙◌}
use Rattle.answers.specs.Numbered.{played_numbered}
use Rattle.answers.specs.Numbers.{cursor_behind}
use Rattle.answers.proofs.cursor_behind.Goals as goal

pub returns-in-Ok-Some : goal.returns-in-Ok-Some
unfolding cursor_behind played_numbered
returns-in-Ok-Some c =
    let which = rw c.in-Ok-Some.is at c.in-Ok-Some.field-0-is in
    sym (ap (λ p. cursor_behind c.args.at (played_numbered p)) (c.in-Ok-Some.is ∙ ap (λ o. Ok o) which))

pub returns-in-Ok-None : goal.returns-in-Ok-None
unfolding cursor_behind played_numbered
returns-in-Ok-None c =
    let which = rw c.in-Ok-None.is at c.in-Ok-None.field-0-is in
    sym (ap (λ p. cursor_behind c.args.at (played_numbered p)) (c.in-Ok-None.is ∙ ap (λ o. Ok o) which))

pub returns-in-Err : goal.returns-in-Err
unfolding cursor_behind played_numbered
returns-in-Err c = sym (ap (λ p. cursor_behind c.args.at (played_numbered p)) c.in-Err.is)
