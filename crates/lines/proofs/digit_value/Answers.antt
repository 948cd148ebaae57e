use Rattle.std.proofs.Common.{arith}
use Rattle.std.proofs.lemmas.Grind.{common_steps}
use Rattle.lines.specs.Line.{digit}
use Rattle.lines.proofs.digit_value.Goals as goal

pub returns-in-48-to-57 : goal.returns-in-48-to-57
unfolding digit
returns-in-48-to-57 c = grind (arith, common_steps)

pub returns-in-97-to-102 : goal.returns-in-97-to-102
unfolding digit
returns-in-97-to-102 c = grind (arith, common_steps)

pub returns-in_default : goal.returns-in_default
unfolding digit
returns-in_default c = grind (arith, common_steps)

pub returns-in_default-2 : goal.returns-in_default-2
unfolding digit
returns-in_default-2 c = grind (arith, common_steps)

pub returns-in_default-3 : goal.returns-in_default-3
unfolding digit
returns-in_default-3 c = grind (arith, common_steps)
