use Rattle.std.proofs.Common.{sym, ◌∙◌, arith}
use Rattle.scripts.proofs.Judged.{digit_stored, digits_stored}
use Rattle.scripts.proofs.write_digits.Goals as goal

pub loop-i-preserved : goal.loop-i-preserved
loop-i-preserved c =
    let l = c.loop-i in
    digit_stored _ l.digits l.i _ c.byte.ensures (omega arith) ∙ l.invariant

pub returns : goal.returns
returns c =
    let l = c.loop-i in
    sym (digits_stored _ l.digits l.i (omega arith)) ∙ l.invariant
