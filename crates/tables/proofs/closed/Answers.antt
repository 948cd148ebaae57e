-- `tables::closed` meets its contract: each arm knows what the line reader answers behind the last line, and a
-- law of `Loop` says what is judged there. Assumes nothing.
use Rattle.std.proofs.Common.{sym, ap, ◌∙◌}
use Rattle.lines.specs.Refusal.{number}
use Rattle.tables.specs.words.Columns.{answer}
use Rattle.tables.specs.Checked.{checked_told}
use Rattle.tables.proofs.Told.{refused_told}
use Rattle.tables.proofs.Loop.{answer_accepted, behind_end, behind_no_line, behind_line}
use Rattle.tables.proofs.closed.Goals as goal

pub returns-in-End : goal.returns-in-End
unfolding checked_told
returns-in-End c =
    let found = sym c.next_line.ensures ∙ c.in-End.is in
    λ t e. answer_accepted t _ e ∙ ap answer (behind_end t _ _ _ found)

pub returns-in-NoLine : goal.returns-in-NoLine
unfolding answer number
returns-in-NoLine c =
    let found = sym c.next_line.ensures ∙ c.in-NoLine.is in
    λ t e. refused_told _ c.at.ensures ∙ ap answer (behind_no_line t _ _ _ found)

pub returns-in-Found : goal.returns-in-Found
unfolding answer number
returns-in-Found c =
    let found = sym c.next_line.ensures ∙ c.in-Found.is in
    λ t e. refused_told _ c.at-in-Found.ensures ∙ ap answer (behind_line t _ _ _ _ _ found)
