-- `lines::find_line` meets its contract: the tests on the way to each answer say what ends the run of digits and how many they
-- are, and a law of `Laws` says what the first line then is. Assumes nothing.
use Rattle.std.proofs.Common.{sym, arith, ◌≡◌, ◌<◌, length, get_or}
use Rattle.std.proofs.lemmas.Grind.{common_steps}
use Rattle.lines.specs.Line.{LF}
use Rattle.lines.proofs.Laws.{answer_end, answer_no_feed, answer_empty, answer_odd, answer_found}
use Rattle.lines.proofs.find_line.Goals.{then-ne-via-then-ne, then-ne-via-else-ne+then-count-eq0, then-ne-via-else-ne+else-count-eq0+then-count-ne0}
use Rattle.lines.proofs.find_line.Goals as goal

pub returns-then-text-at : goal.returns-then-text-at
returns-then-text-at c = sym (answer_end _ _ c.if-text-at.true)

pub returns-then-ne : goal.returns-then-ne
returns-then-ne c =
    let s = c.args.text.now in
    let e = c.digits_end-end.result in
    let run = c.digits_end-end.ensures.0 in
    let inside = c.if-text-at.false in
    elim c.then-ne.branch [
      | then-ne-via-then-ne w ↦ sym (answer_no_feed _ _ _ inside run (λ l q. grind (arith, common_steps)))
      | then-ne-via-else-ne+then-count-eq0 w ↦
          let more : e < length s = grind (arith, common_steps) in
          let feed : get_or s e 0 ≡ LF = grind (arith, common_steps) in
          sym (answer_empty _ _ _ inside run more feed w.if-count-eq0.true)
      | then-ne-via-else-ne+else-count-eq0+then-count-ne0 w ↦
          let more : e < length s = grind (arith, common_steps) in
          let feed : get_or s e 0 ≡ LF = grind (arith, common_steps) in
          sym (answer_odd _ _ _ inside run more feed w.if-count-ne0.true)
    ]

pub returns : goal.returns
returns c =
    let s = c.args.text.now in
    let e = c.digits_end-end.result in
    let more : e < length s = grind (arith, common_steps) in
    let feed : get_or s e 0 ≡ LF = grind (arith, common_steps) in
    sym (answer_found _ _ _ c.if-text-at.false c.digits_end-end.ensures.0 more feed c.if-count-eq0.false c.if-count-ne0.false)
