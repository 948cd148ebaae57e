-- `filling::behind` meets its contract: behind no term, one or two is none, one or two steps along the
-- column. Assumes nothing.
use Rattle.std.proofs.Common.{ℕ, ◌∙◌, ap, get_or, arith}
use Rattle.columns.proofs.Laws.{look_whole}
use Rattle.filling.proofs.Walked.{past_none, past_one, past_two}
use Rattle.filling.proofs.behind.Goals as goal

pub returns-in-0 : goal.returns-in-0
returns-in-0 c = past_none _ _ _ c.in-0.is

pub returns-in-1 : goal.returns-in-1
returns-in-1 c = c.after_word.ensures ∙ look_whole _ _ _ c.requires.2 ∙ past_one _ _ _ c.in-1.is

pub returns-in_default : goal.returns-in_default
returns-in_default c =
    let second = c.after_of-second.ensures ∙ look_whole _ _ _ c.requires.2 in
    c.after_word-in_default.ensures ∙ look_whole _ _ _ c.requires.2
    ∙ ap (λ (k : ℕ). get_or c.args.after.now k 0) second ∙ past_two _ _ _ (omega arith)
