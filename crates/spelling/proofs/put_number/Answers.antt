-- `spelling::put_number` meets its contract: the high byte, and the low one behind it. Assumes nothing.
use Rattle.std.proofs.Common.{arith}
use Rattle.lines.specs.Line.{hex}
use Rattle.spelling.proofs.Spelt.{number_spelt}
use Rattle.spelling.proofs.put_number.Goals as goal

pub put_byte-requires : goal.put_byte-requires
unfolding hex
put_byte-requires c = omega arith

pub returns : goal.returns
returns c = number_spelt _ c.put_byte-high.ensures c.put_byte.ensures
