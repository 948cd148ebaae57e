-- `framing::put_node` meets its contract: a byte, a number, the definition, the length and the digits
-- of a path, and LF. Assumes nothing.
use Rattle.std.proofs.Common.{arith}
use Rattle.lines.specs.Line.{two, hex}
use Rattle.framing.proofs.Spelt.{node_spelt, digits_short}
use Rattle.framing.proofs.put_node.Goals as goal

pub put_number-b-requires : goal.put_number-b-requires
unfolding hex
put_number-b-requires c = omega arith

pub put_byte-c-requires : goal.put_byte-c-requires
unfolding hex two
put_byte-c-requires c = omega arith

pub put_byte-d-requires : goal.put_byte-d-requires
unfolding hex two
put_byte-d-requires c = omega arith

pub put_path-e-requires : goal.put_path-e-requires
unfolding hex two
put_path-e-requires c = (c.requires.0, omega (arith, c.path_length-digits.ensures, c.requires.1), omega arith)

pub put_end-requires : goal.put_end-requires
unfolding hex two
put_end-requires c =
    let l = c.path_length-digits in
    omega (
      arith,
      l.ensures,
      c.requires.1,
      c.put_byte-a.ensures.ends,
      c.put_number-b.ensures.ends,
      c.put_byte-c.ensures.ends,
      c.put_byte-d.ensures.ends,
      c.put_path-e.ensures.ends,
      digits_short l.result c.args.path.now,
    )

pub returns : goal.returns
returns c =
    rw (← c.definition_of.ensures, ← c.path_length-digits.ensures)
    (node_spelt 0x31 _ _ _ _ c.put_byte-a.ensures c.put_number-b.ensures c.put_byte-c.ensures
    c.put_byte-d.ensures c.put_path-e.ensures
    c.put_end.ensures)
