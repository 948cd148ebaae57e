-- `listing::list` meets its contract: the table's text is a part of the input, since it ends within it, and
-- what is put is the listing by what the table is judged. Assumes nothing.
use Rattle.std.proofs.Common.{sym, ap, length-take-le}
use Rattle.tables.specs.Checked.{checked_told}
use Rattle.inputs.proofs.Cutting.{table_within}
use Rattle.listing.proofs.Whole.{refused_listed, accepted_listed}
use Rattle.listing.proofs.list.Goals as goal

pub slice_bounds-check-end : goal.slice_bounds-check-end
slice_bounds-check-end c = sym (length-take-le _ _ (rw c.table_end-end.ensures (table_within _)))

pub slice_bounds-list_script-count : goal.slice_bounds-list_script-count
slice_bounds-list_script-count c = rw c.table_end-end.ensures (table_within _)

pub slice_bounds-list_script-start : goal.slice_bounds-list_script-start
slice_bounds-list_script-start c = rw c.table_end-end.ensures (table_within _)

pub returns-in-Err : goal.returns-in-Err
unfolding checked_told
returns-in-Err c =
    let told = refused_listed _ _ c.table_end-end.ensures _ c.check.ensures _ _ (ap checked_told c.in-Err.is)
    (rw c.number.ensures at c.put_refusal.ensures) in
    record { value = told.0; out_after = told.1 }

pub returns-in-Ok : goal.returns-in-Ok
unfolding checked_told
returns-in-Ok c =
    let told = accepted_listed _ _ c.table_end-end.ensures _ c.check.ensures _ (ap checked_told c.in-Ok.is)
    c.list_script.ensures in
    record { value = told.0; out_after = told.1 }
