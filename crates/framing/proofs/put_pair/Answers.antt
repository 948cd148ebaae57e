-- `framing::put_pair` meets its contract: a byte, two numbers and LF. Assumes nothing.
use Rattle.std.proofs.Common.{arith}
use Rattle.lines.specs.Line.{two, hex}
use Rattle.framing.proofs.Spelt.{pair_spelt}
use Rattle.framing.proofs.put_pair.Goals as goal

pub put_number-b-requires : goal.put_number-b-requires
unfolding hex
put_number-b-requires c = omega arith

pub put_number-c-requires : goal.put_number-c-requires
unfolding hex two
put_number-c-requires c = omega arith

pub put_end-requires : goal.put_end-requires
unfolding hex two
put_end-requires c = omega arith

pub returns : goal.returns
returns c =
    pair_spelt _ _ _ c.put_byte-a.ensures c.put_number-b.ensures c.put_number-c.ensures
    c.put_end.ensures
