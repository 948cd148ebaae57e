-- `tables::check` meets its contract. A text over its room, one whose line 1 fails and one whose lines behind
-- it are refused leave the columns as they were; else what `body` and `walk` leave in the check's own columns
-- is what the table's columns are. Assumes nothing.
use Rattle.std.proofs.Common.{◌∙◌, sym, ap, refl}
use Rattle.std.proofs.lemmas.Result.{err_from_is_err_and}
use Rattle.lines.specs.Refusal.{number}
use Rattle.refusals.specs.code.Said.{first_told}
use Rattle.columns.specs.words.Columns.{Columns}
use Rattle.tables.specs.Checked.{checked_told}
use Rattle.tables.specs.words.Columns.{answer}
use Rattle.tables.proofs.Told.{table_told, refused_told}
use Rattle.tables.proofs.Whole.{table_opens, table_fails, judged_within, judged_over, answer_refuses}
use Rattle.tables.proofs.Whole.{answer_accepts, refuses, accepts}
use Rattle.tables.proofs.check.Goals as goal

pub returns-then-text-gt-TABLE_TEXT_ROOM : goal.returns-then-text-gt-TABLE_TEXT_ROOM
unfolding number
returns-then-text-gt-TABLE_TEXT_ROOM c =
    refuses _ _ _ _ _ (refused_told _ c.at.ensures) (judged_over _ c.if-text-gt-TABLE_TEXT_ROOM.true)

pub returns-in_default : goal.returns-in_default
unfolding first_told
returns-in_default c =
    let fails = sym c.first_line-first.ensures ∙ ap first_told c.unwrap_err.ensures in
    let all = judged_within _ c.if-text-gt-TABLE_TEXT_ROOM.false ∙ table_fails _ _ fails in
    refuses _ _ _ _ _ (refused_told _ c.at-in_default.ensures) all

pub body-requires : goal.body-requires
body-requires c =
    let opens = table_told c.in-Ok.is c.first_line-first.ensures in
    (table_opens _ _ _ _ opens).1

pub returns-in_err-counts : goal.returns-in_err-counts
unfolding checked_told
returns-in_err-counts c =
    let opens = table_told c.in-Ok.is c.first_line-first.ensures in
    let all = judged_within _ c.if-text-gt-TABLE_TEXT_ROOM.false ∙ (table_opens _ _ _ _ opens).0 in
    let told = sym c.body.ensures.fills.0 ∙ ap checked_told c.in_err-counts.was in
    let is = err_from_is_err_and c.from_residual.result c.from_residual.ensures.1 in
    rw (is.1, is.2) (refuses _ _ _ _ _ refl (all ∙ answer_refuses _ _ _ told))

pub walk-requires : goal.walk-requires
unfolding checked_told
walk-requires c =
    let judged = c.body.ensures.fills in
    let table = answer_accepts _ _ (sym judged.0 ∙ ap checked_told c.in_ok-counts.was) in
    let zeros = c.body.ensures.after_kept ∙ ap (λ (x : Columns). x.after) c.new-own.ensures in
    (rw table.2 (judged.1 table.0 table.1).terms_fit, rw zeros refl)

pub returns : goal.returns
unfolding checked_told
returns c =
    let opens = table_told c.in-Ok.is c.first_line-first.ensures in
    let all = judged_within _ c.if-text-gt-TABLE_TEXT_ROOM.false ∙ (table_opens _ _ _ _ opens).0 in
    let judged = c.body.ensures.fills in
    let told = sym (ap checked_told c.in_ok-counts.was) ∙ judged.0 in
    let table = answer_accepts _ _ (sym told) in
    let filled = judged.1 table.0 table.1 in
    accepts _ table.0 _ _ _ _ _ _ _ _ c.new-own.ensures (all ∙ table.1) (told ∙ ap answer (sym all)) filled _ table.2 _
    c.body.ensures.after_kept c.walk.ensures
