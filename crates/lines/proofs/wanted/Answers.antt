-- `lines::wanted` meets its contract: each arm knows the variant, and `wanted` says what stands for it. Assumes nothing.
use Rattle.std.proofs.Common.{sym, ap}
use Rattle.lines.specs.Refusal.{wanted}
use Rattle.lines.proofs.wanted.Goals as goal

pub returns-in-Found : goal.returns-in-Found
unfolding wanted
returns-in-Found c = sym (ap wanted c.in-Found.is)

pub returns-in-NoLine : goal.returns-in-NoLine
unfolding wanted
returns-in-NoLine c = sym (ap wanted c.in-NoLine.is)

pub returns-in-End : goal.returns-in-End
unfolding wanted
returns-in-End c = sym (ap wanted c.in-End.is)
