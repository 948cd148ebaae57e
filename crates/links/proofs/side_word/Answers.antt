-- `links::side_word` meets its contract, inside the column and past its end. Assumes nothing.
use Rattle.std.proofs.Common.{rules}
use Rattle.columns.specs.words.Columns.{look}
use Rattle.links.proofs.side_word.Goals as goal

pub returns : goal.returns
unfolding look
returns c = search rules
