-- `weights::end_of` meets its contract, by whether there is a weight. Assumes nothing.
use Rattle.std.proofs.Common.{rules}
use Rattle.weights.specs.code.Rules.{end_of}
use Rattle.weights.proofs.end_of.Goals as goal

pub returns : goal.returns
unfolding end_of
returns c = search rules
