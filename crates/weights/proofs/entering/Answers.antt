-- `weights::entering` meets its contract, by whether there is a weight. Assumes nothing.
use Rattle.std.proofs.Common.{rules}
use Rattle.weights.specs.code.Rules.{entering}
use Rattle.weights.proofs.entering.Goals as goal

pub returns : goal.returns
unfolding entering
returns c = search rules
