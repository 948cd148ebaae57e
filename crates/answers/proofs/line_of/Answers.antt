-- `answers::line_of` meets its contract: each arm knows what the text is. Assumes nothing.
use Rattle.std.proofs.Common.{sym, ap}
use Rattle.answers.specs.Numbers.{line_of}
use Rattle.answers.proofs.line_of.Goals as goal

pub returns-in-Ok : goal.returns-in-Ok
unfolding line_of
returns-in-Ok g c = sym (ap line_of c.in-Ok.is)

pub returns-in-Err : goal.returns-in-Err
unfolding line_of
returns-in-Err g c = sym (ap line_of c.in-Err.is)
