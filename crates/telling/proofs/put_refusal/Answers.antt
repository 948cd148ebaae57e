-- `telling::put_refusal` meets its contract: two bytes, a number and LF. Assumes nothing.
use Rattle.std.proofs.Common.{arith}
use Rattle.lines.specs.Line.{hex, two}
use Rattle.telling.proofs.Laws.{refusal_spelt}
use Rattle.telling.proofs.put_refusal.Goals as goal

pub put_byte-b-requires : goal.put_byte-b-requires
unfolding hex
put_byte-b-requires c = omega arith

pub put_number-c-requires : goal.put_number-c-requires
unfolding hex
put_number-c-requires c = omega arith

pub put_end-requires : goal.put_end-requires
unfolding hex two
put_end-requires c = omega arith

pub returns : goal.returns
returns c =
    refusal_spelt _ _ c.put_byte-a.ensures c.put_byte-b.ensures c.put_number-c.ensures
    c.put_end.ensures
