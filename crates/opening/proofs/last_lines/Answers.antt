-- `opening::last_lines` meets its contract: the line is none, or another, or the last one, with what stands behind
-- it. Assumes nothing.
use Rattle.lines.specs.Refusal.{number}
use Rattle.opening.specs.Answers.{lines_told}
use Rattle.opening.proofs.Tested.{last_length, last_tag, last_fits}
use Rattle.opening.proofs.Turns.{no_line_refused, held_line, last_none, last_stops, last_goes}
use Rattle.opening.proofs.last_lines.Goals as goal

pub unwrap_err-requires : goal.unwrap_err-requires
unwrap_err-requires c = no_line_refused _ c.in_default.not-Found c.wanted.ensures

pub returns-in_default : goal.returns-in_default
unfolding lines_told
returns-in_default c =
    rw (c.at.ensures.0, c.at.ensures.1) (last_none _ _ _ c.next_line-found.ensures c.wanted.ensures c.unwrap_err.ensures)

pub returns-then-chars-ne1 : goal.returns-then-chars-ne1
unfolding number lines_told
returns-then-chars-ne1 c =
    let i = held_line _ _ c.next_line-found.ensures c.in-Found.is c.characters-chars.ensures in
    let at = c.at-then-chars-ne1.ensures in
    rw (at.0, at.1) (last_stops _ _ _ i (last_length _ c.if-chars-ne1.true))

pub returns-then-byte-ne-TRACK_END_FRAME : goal.returns-then-byte-ne-TRACK_END_FRAME
unfolding number lines_told
returns-then-byte-ne-TRACK_END_FRAME c =
    let i = held_line _ _ c.next_line-found.ensures c.in-Found.is c.characters-chars.ensures in
    let at = c.at-then-byte-ne-TRACK_END_FRAME.ensures in
    rw (at.0, at.1) (last_stops _ _ _ i (last_tag _ c.byte.ensures c.if-byte-ne-TRACK_END_FRAME.true))

pub returns : goal.returns
returns c =
    let i = held_line _ _ c.next_line-found.ensures c.in-Found.is c.characters-chars.ensures in
    last_goes _ _ _ i
    (last_fits _ c.byte.ensures c.if-chars-ne1.false c.if-byte-ne-TRACK_END_FRAME.false)
    c.behind_last.ensures
