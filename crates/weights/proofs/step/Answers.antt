-- `weights::step` meets its contract, which says what it makes. Assumes nothing.
use Rattle.std.proofs.Common.{refl}
use Rattle.weights.specs.code.Rules.{step}
use Rattle.weights.proofs.step.Goals as goal

pub returns : goal.returns
unfolding step
returns c = refl
