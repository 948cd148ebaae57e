-- `pairing::number_of` meets its contract, inside the column and past its end. Assumes nothing.
use Rattle.std.proofs.Common.{rules}
use Rattle.columns.specs.words.Columns.{look}
use Rattle.pairing.proofs.number_of.Goals as goal

pub returns : goal.returns
unfolding look
returns c = search rules
