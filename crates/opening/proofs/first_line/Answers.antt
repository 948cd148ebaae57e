-- `opening::first_line` meets its contract: line 1 is none, or has another frame, or its numbers are outside or
-- inside their ranges. Assumes nothing.
use Rattle.std.proofs.Common.{arith}
use Rattle.lines.specs.Refusal.{number}
use Rattle.opening.specs.Answers.{opened_told}
use Rattle.opening.proofs.Tested.{opening_length, opening_tag, opening_read}
use Rattle.opening.proofs.Turns.{no_line_refused, held_line, opened_none, opened_stops, opened_outside, opened_inside}
use Rattle.opening.proofs.first_line.Goals as goal

pub unwrap_err-requires : goal.unwrap_err-requires
unwrap_err-requires c = no_line_refused _ c.in_default.not-Found c.wanted.ensures

pub returns-in_default : goal.returns-in_default
unfolding opened_told
returns-in_default c = opened_none _ c.next_line-line.ensures c.wanted.ensures c.unwrap_err.ensures

pub returns-then-chars-ne8 : goal.returns-then-chars-ne8
unfolding number opened_told
returns-then-chars-ne8 c =
    let i = held_line _ 0 c.next_line-line.ensures c.in-Found.is c.characters-chars.ensures in
    opened_stops _ i (opening_length _ c.if-chars-ne8.true) (λ q. omega (arith, q))

pub returns-then-byte-ne-TRACK_FRAME : goal.returns-then-byte-ne-TRACK_FRAME
unfolding number opened_told
returns-then-byte-ne-TRACK_FRAME c =
    let i = held_line _ 0 c.next_line-line.ensures c.in-Found.is c.characters-chars.ensures in
    opened_stops _ i (opening_tag _ c.byte.ensures c.if-byte-ne-TRACK_FRAME.true)
    (λ q. omega (arith, q))

pub returns-then-counts_outside : goal.returns-then-counts_outside
unfolding number opened_told
returns-then-counts_outside c =
    let i = held_line _ 0 c.next_line-line.ensures c.in-Found.is c.characters-chars.ensures in
    let opens = opening_read _ c.if-chars-ne8.false c.byte.ensures
    c.if-byte-ne-TRACK_FRAME.false c.byte-2.ensures
    c.number_at-nodes.ensures.value
    c.number_at-arcs.ensures.value
    c.number_at-meetings.ensures.value in
    opened_outside _ i opens c.counts_outside.ensures c.if-counts_outside.true

pub returns : goal.returns
unfolding opened_told
returns c =
    let i = held_line _ 0 c.next_line-line.ensures c.in-Found.is c.characters-chars.ensures in
    let opens = opening_read _ c.if-chars-ne8.false c.byte.ensures
    c.if-byte-ne-TRACK_FRAME.false c.byte-2.ensures
    c.number_at-nodes.ensures.value
    c.number_at-arcs.ensures.value
    c.number_at-meetings.ensures.value in
    opened_inside _ i opens c.counts_outside.ensures c.if-counts_outside.false
