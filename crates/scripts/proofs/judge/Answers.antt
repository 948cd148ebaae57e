-- `scripts::judge` meets its contract: each `return` stands behind the tests that led to it, and a law of
-- `Judged` says what a line that they let through asks for. Assumes nothing.
use Rattle.std.proofs.Common.{sym, ◌∙◌}
use Rattle.lines.specs.Refusal.{number, told}
use Rattle.scripts.proofs.Judged.{too_short, other_tag, other_count, too_many, other_digit, step_asked}
use Rattle.scripts.proofs.judge.Goals.{then-n-lt-HEAD-via-then-n-lt-HEAD, then-n-lt-HEAD-via-else-n-lt-HEAD+then-byte-ne-STEP_FRAME}
use Rattle.scripts.proofs.judge.Goals.{then-count-gt-DIGIT_ROOM-via-then-count-gt-DIGIT_ROOM, then-count-gt-DIGIT_ROOM-via-else-count-gt-DIGIT_ROOM+then-not-digits_fit}
use Rattle.scripts.proofs.judge.Goals as goal

pub returns-then-n-lt-HEAD : goal.returns-then-n-lt-HEAD
unfolding told number
returns-then-n-lt-HEAD c = elim c.then-n-lt-HEAD.branch [
  | then-n-lt-HEAD-via-then-n-lt-HEAD w ↦ too_short _ w.if-n-lt-HEAD.true
  | then-n-lt-HEAD-via-else-n-lt-HEAD+then-byte-ne-STEP_FRAME w ↦
      other_tag _ (λ q. w.if-byte-ne-STEP_FRAME.true (w.byte.ensures ∙ q))
]

pub returns-then-number-count : goal.returns-then-number-count
unfolding told number
returns-then-number-count c =
    let tagged = sym c.byte.ensures ∙ c.if-byte-ne-STEP_FRAME.false in
    other_count _ c.if-n-lt-HEAD.false tagged
    (λ q. c.if-number-count.true (c.number.ensures ∙ q))

pub returns-then-count-gt-DIGIT_ROOM : goal.returns-then-count-gt-DIGIT_ROOM
unfolding told number
returns-then-count-gt-DIGIT_ROOM c =
    let tagged = sym c.byte.ensures ∙ c.if-byte-ne-STEP_FRAME.false in
    let stated = sym c.number.ensures ∙ c.if-number-count.false in
    elim c.then-count-gt-DIGIT_ROOM.branch [
      | then-count-gt-DIGIT_ROOM-via-then-count-gt-DIGIT_ROOM w ↦
          too_many _ c.if-n-lt-HEAD.false tagged stated w.if-count-gt-DIGIT_ROOM.true
      | then-count-gt-DIGIT_ROOM-via-else-count-gt-DIGIT_ROOM+then-not-digits_fit w ↦
          let fit = sym w.digits_fit.ensures ∙ w.if-not-digits_fit.true in
          other_digit _ c.if-n-lt-HEAD.false tagged stated w.if-count-gt-DIGIT_ROOM.false fit
    ]

pub returns : goal.returns
unfolding told
returns c =
    let tagged = sym c.byte.ensures ∙ c.if-byte-ne-STEP_FRAME.false in
    let stated = sym c.number.ensures ∙ c.if-number-count.false in
    let fit = sym c.digits_fit.ensures ∙ c.if-not-digits_fit.false in
    step_asked _ c.if-n-lt-HEAD.false tagged stated c.if-count-gt-DIGIT_ROOM.false fit
