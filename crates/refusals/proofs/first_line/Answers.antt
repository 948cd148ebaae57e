-- `refusals::first_line` meets its contract. What each call promises makes the text's first line none,
-- a line with another frame, or line 1 with its numbers outside or inside their ranges. Assumes nothing.
use Rattle.std.proofs.Common.{sym, ◌∙◌}
use Rattle.lines.specs.Refusal.{number}
use Rattle.refusals.specs.code.Said.{first_told}
use Rattle.refusals.proofs.Cursor.{no_line_refused, opened_none, frame_at, opened_other, opened_outside, opened_inside}
use Rattle.refusals.proofs.first_line.Goals as goal

pub unwrap_err-requires : goal.unwrap_err-requires
unwrap_err-requires c = no_line_refused _ c.in_default.not-Found c.wanted.ensures

pub returns-in_default : goal.returns-in_default
unfolding first_told
returns-in_default c =
    opened_none _ 0 c.next_line-line.ensures (sym c.unwrap_err.ensures ∙ c.wanted.ensures)

pub returns-in_default-read_frame : goal.returns-in_default-read_frame
unfolding first_told number
returns-in_default-read_frame c =
    let i = frame_at _ 0 c.next_line-line.ensures c.in-Found.is c.characters.ensures c.read_frame.ensures in
    opened_other i c.in_default-read_frame.not-Opening

pub returns-then-opening_outside : goal.returns-then-opening_outside
unfolding first_told number
returns-then-opening_outside c =
    let i = frame_at _ 0 c.next_line-line.ensures c.in-Found.is c.characters.ensures c.read_frame.ensures in
    opened_outside i c.in-Opening.is c.opening_outside.ensures c.if-opening_outside.true

pub returns : goal.returns
unfolding first_told
returns c =
    let i = frame_at _ 0 c.next_line-line.ensures c.in-Found.is c.characters.ensures c.read_frame.ensures in
    rw (c.from.ensures, c.from-2.ensures) (opened_inside i c.in-Opening.is c.opening_outside.ensures c.if-opening_outside.false)
