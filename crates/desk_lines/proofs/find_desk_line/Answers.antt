-- `desk_lines::find_desk_line` meets its contract: the tests on the way to each answer say how the line ends and how many digits
-- it has, and a law of `Finding` says what the first line then is. Assumes nothing.
use Rattle.std.proofs.Common.{◌≡◌, sym, None, drop}
use Rattle.desk_lines.specs.code.Ends.{behind}
use Rattle.desk_lines.proofs.Finding.{desk_end, desk_unended, desk_empty, desk_odd, desk_found}
use Rattle.desk_lines.proofs.find_desk_line.Goals.{then-count-eq0-via-then-count-eq0, then-count-eq0-via-else-count-eq0+then-count-ne0}
use Rattle.desk_lines.proofs.find_desk_line.Goals as goal

pub returns-then-text-at : goal.returns-then-text-at
returns-then-text-at c = sym (desk_end _ _ c.if-text-at.true)

pub returns-in_default : goal.returns-in_default
returns-in_default c =
    let e = c.digits_end-end.result in
    let place : None ≡ behind e (drop e c.args.text.now) = cc (c.behind_end.ensures) in
    sym (desk_unended _ _ e c.if-text-at.false c.digits_end-end.ensures.0 place)

pub returns-then-count-eq0 : goal.returns-then-count-eq0
returns-then-count-eq0 c =
    let run = c.digits_end-end.ensures.0 in
    let inside = c.if-text-at.false in
    let place = c.in-Some.ensures in
    elim c.then-count-eq0.branch [
      | then-count-eq0-via-then-count-eq0 w ↦ sym (desk_empty _ _ _ inside run _ place w.if-count-eq0.true)
      | then-count-eq0-via-else-count-eq0+then-count-ne0 w ↦ sym (desk_odd _ _ _ inside run _ place w.if-count-ne0.true)
    ]

pub returns : goal.returns
returns c =
    sym (desk_found _ _ _ c.if-text-at.false c.digits_end-end.ensures.0 _ c.in-Some.ensures c.if-count-eq0.false c.if-count-ne0.false)
