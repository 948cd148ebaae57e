-- `numbers::number_at` meets its contract: two bytes make their number. Assumes nothing.
use Rattle.std.proofs.Common.{arith}
use Rattle.lines.specs.Line.{number_from}
use Rattle.numbers.proofs.number_at.Goals as goal

pub returns : goal.returns
unfolding number_from
returns c = record { value = omega (arith, c.byte_at.ensures.value, c.byte_at-2.ensures.value); upper_bound = omega (arith, c.byte_at.ensures.upper_bound, c.byte_at-2.ensures.upper_bound) }
