-- `table_parts::check_parts` meets its contract: the table is the door's, and an accepted one has its plan and its head.
-- Assumes nothing.
use Rattle.std.proofs.Common.{ap, ◌∙◌}
use Rattle.answers.specs.Numbered.{checked_numbered}
use Rattle.answers.proofs.Handed.{table_handed}
use Rattle.answers.proofs.Judged.{table_judged, table_line_of}
use Rattle.table_parts.proofs.Laws.{table_refused, table_accepted}
use Rattle.table_parts.proofs.check_parts.Goals as goal

pub returns-in_default : goal.returns-in_default
unfolding checked_numbered
returns-in_default c =
    let told = rw (← table_handed _ _ c.map_err-checked.ensures.cases) at c.check.ensures in
    table_refused _ _ _ _ _ _ told _ (c.line_of.ensures ∙ table_line_of _) _ (c.of_judged.ensures ∙ table_judged _) _ _
    (ap checked_numbered c.in_default.is)

pub returns : goal.returns
unfolding checked_numbered
returns c =
    let told = rw (← table_handed _ _ c.map_err-checked.ensures.cases) at c.check.ensures in
    table_accepted _ _ _ _ _ _ told _ (c.line_of.ensures ∙ table_line_of _) _ (ap checked_numbered c.in-Ok.is) _
    c.lay_out.ensures
