-- `refusals::table_line` meets its contract. What each call promises makes the line at the cursor
-- none, or one whose frame is the one read and meets the refusal found. Assumes nothing.
use Rattle.std.proofs.Common.{sym, ◌∙◌}
use Rattle.std.proofs.lemmas.Result.{err_from_is_err_and}
use Rattle.lines.specs.Refusal.{told}
use Rattle.frames.specs.TableFrame.{refusal}
use Rattle.refusals.specs.code.Said.{line_told}
use Rattle.refusals.proofs.Cursor.{no_line_refused, said_none, frame_at, said_stops, said_goes}
use Rattle.refusals.proofs.table_line.Goals as goal

pub unwrap_err-requires : goal.unwrap_err-requires
unwrap_err-requires c = no_line_refused _ c.in_default.not-Found c.wanted.ensures

pub returns-in_default : goal.returns-in_default
unfolding line_told
returns-in_default c =
    said_none _ _ c.next_line-line.ensures (sym c.unwrap_err.ensures ∙ c.wanted.ensures) _

pub returns-in_err-refusal : goal.returns-in_err-refusal
unfolding told line_told
returns-in_err-refusal c =
    let i = frame_at _ c.args.at c.next_line-line.ensures c.in-Found.is c.characters.ensures c.read_frame-frame.ensures in
    let is = err_from_is_err_and c.from_residual.result c.from_residual.ensures.1 in
    rw (is.1, is.2) (said_stops i (λ f. refusal f c.args.s) _ c.in_err-refusal.ensures)

pub returns : goal.returns
unfolding told line_told
returns c =
    let i = frame_at _ c.args.at c.next_line-line.ensures c.in-Found.is c.characters.ensures c.read_frame-frame.ensures in
    said_goes i (λ f. refusal f c.args.s) c.in_ok-refusal.ensures
