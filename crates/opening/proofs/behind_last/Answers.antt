-- `opening::behind_last` meets its contract: each arm knows what the line reader answers. Assumes nothing.
use Rattle.std.proofs.Common.{sym, ◌∙◌}
use Rattle.lines.specs.Refusal.{number}
use Rattle.opening.specs.Answers.{lines_told}
use Rattle.opening.proofs.Turns.{behind_end, behind_no_line, behind_line}
use Rattle.opening.proofs.behind_last.Goals as goal

pub returns-in-End : goal.returns-in-End
unfolding lines_told
returns-in-End c = behind_end _ _ _ (sym c.next_line.ensures ∙ c.in-End.is)

pub returns-in-NoLine : goal.returns-in-NoLine
unfolding lines_told number
returns-in-NoLine c =
    rw (c.at.ensures.0, c.at.ensures.1) (behind_no_line _ _ _ (sym c.next_line.ensures ∙ c.in-NoLine.is))

pub returns-in-Found : goal.returns-in-Found
unfolding lines_told number
returns-in-Found c =
    rw (c.at-in-Found.ensures.0, c.at-in-Found.ensures.1) (behind_line _ _ _ (sym c.next_line.ensures ∙ c.in-Found.is))
