-- `plans::laying::operand_to` meets its contract, by the kind. Assumes nothing.
use Rattle.std.proofs.Common.{rules}
use Rattle.plans.specs.code.Laid.{operand_of}
use Rattle.plans.proofs.laying.operand_to.Goals as goal

pub returns-in-1 : goal.returns-in-1
unfolding operand_of
returns-in-1 c = search rules

pub returns-in-2 : goal.returns-in-2
unfolding operand_of
returns-in-2 c = search rules

pub returns-in_default : goal.returns-in_default
unfolding operand_of
returns-in_default c = search rules
