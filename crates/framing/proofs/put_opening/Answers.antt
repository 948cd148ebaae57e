-- `framing::put_opening` meets its contract: two bytes, three numbers and LF. Assumes nothing.
use Rattle.std.proofs.Common.{arith}
use Rattle.lines.specs.Line.{two, hex}
use Rattle.framing.proofs.Spelt.{opening_spelt, opening_long}
use Rattle.framing.proofs.put_opening.Goals as goal

pub put_byte-b-requires : goal.put_byte-b-requires
unfolding hex
put_byte-b-requires c = omega arith

pub put_number-c-requires : goal.put_number-c-requires
unfolding hex
put_number-c-requires c = omega arith

pub put_number-d-requires : goal.put_number-d-requires
unfolding hex two
put_number-d-requires c = omega arith

pub put_number-e-requires : goal.put_number-e-requires
unfolding hex two
put_number-e-requires c = omega arith

pub put_end-requires : goal.put_end-requires
unfolding hex two
put_end-requires c = omega arith

pub returns : goal.returns
returns c =
    let line =
    opening_spelt 0x30 1 _ _ _ c.put_byte-a.ensures c.put_byte-b.ensures c.put_number-c.ensures
    c.put_number-d.ensures c.put_number-e.ensures
    c.put_end.ensures in
    record { puts = line; value = rw opening_long at line.ends }
