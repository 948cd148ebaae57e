-- `looking::taken` meets its contract, by the digit. Assumes nothing.
use Rattle.std.proofs.Common.{rules}
use Rattle.looking.specs.code.Looking.{taken}
use Rattle.looking.proofs.taken.Goals as goal

pub returns-then-digit-eq2 : goal.returns-then-digit-eq2
unfolding taken
returns-then-digit-eq2 c = search rules

pub returns-else-digit-eq2 : goal.returns-else-digit-eq2
unfolding taken
returns-else-digit-eq2 c = search rules
