use Rattle.std.proofs.Common.{arith}
use Rattle.framing.proofs.Spelt.{digit_less, digits_put, digits_short}
use Rattle.framing.proofs.put_path.Goals as goal

pub put_byte-at-requires : goal.put_byte-at-requires
put_byte-at-requires c =
    let a = c.args in
    omega (arith, c.loop-digit.invariant.lengths, digits_short a.count a.path.now)

pub loop-digit-preserved : goal.loop-digit-preserved
loop-digit-preserved c =
    digit_less _ _ c.loop-digit-test.true c.loop-digit.invariant c.put_byte-at.ensures

pub returns : goal.returns
returns c = digits_put _ _ c.loop-digit-test.false c.loop-digit.invariant
