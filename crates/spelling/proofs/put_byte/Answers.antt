-- `spelling::put_byte` meets its contract: the high digit, and the low one behind it. Assumes nothing.
use Rattle.lines.specs.Line.{hex}
use Rattle.spelling.proofs.Putting.{puts_two}
use Rattle.spelling.proofs.put_byte.Goals as goal

pub returns : goal.returns
unfolding hex
returns c =
    rw (← c.digit_of.ensures, ← c.digit_of-2.ensures)
    (puts_two c.put.ensures c.put-2.ensures)
