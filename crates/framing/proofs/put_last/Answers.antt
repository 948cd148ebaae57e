-- `framing::put_last` meets its contract: a byte and LF. Assumes nothing.
use Rattle.std.proofs.Common.{arith}
use Rattle.lines.specs.Line.{hex}
use Rattle.spelling.proofs.Spelt.{last_spelt}
use Rattle.framing.proofs.put_last.Goals as goal

pub put_end-requires : goal.put_end-requires
unfolding hex
put_end-requires c = omega arith

pub returns : goal.returns
returns c = last_spelt 0x3f c.put_byte-a.ensures c.put_end.ensures
