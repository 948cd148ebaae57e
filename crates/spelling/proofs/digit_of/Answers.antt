-- `spelling::digit_of` meets its contract: 0 to 9, and a to f. Assumes nothing.
use Rattle.std.proofs.Common.{lt-ltb, le-ltb, arith}
use Rattle.lines.specs.Line.{character}
use Rattle.spelling.proofs.digit_of.Goals as goal

pub returns-then-d-lt10 : goal.returns-then-d-lt10
unfolding character
returns-then-d-lt10 c = simp (lt-ltb _ 10 c.if-d-lt10.true) (omega arith)

pub returns-else-d-lt10 : goal.returns-else-d-lt10
unfolding character
returns-else-d-lt10 c = simp (le-ltb _ 10 c.if-d-lt10.false) (omega arith)
