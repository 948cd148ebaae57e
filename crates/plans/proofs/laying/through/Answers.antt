-- `plans::laying::through` meets its contract, by the kind. Assumes nothing.
use Rattle.std.proofs.Common.{rules}
use Rattle.plans.specs.code.Laid.{through}
use Rattle.plans.proofs.laying.through.Goals as goal

pub returns-in-6 : goal.returns-in-6
unfolding through
returns-in-6 c = search rules

pub returns-in_default : goal.returns-in_default
unfolding through
returns-in_default c = search rules
