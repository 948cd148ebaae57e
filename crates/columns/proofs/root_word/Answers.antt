-- `columns::root_word` meets its contract: a column is as long as its room, so past the room there
-- is nothing to get. Assumes nothing.
use Rattle.std.proofs.Common.{arith}
use Rattle.std.proofs.lemmas.Grind.{common_steps}
use Rattle.columns.proofs.Laws.{look_whole}
use Rattle.columns.proofs.root_word.Goals as goal

pub returns : goal.returns
returns c = rw (look_whole _ _ _ c.told-roots) (grind (arith, common_steps))
