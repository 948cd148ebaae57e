-- `control::track_word` meets its contract: a track is as long as its words, so past them there is
-- nothing to get. Assumes nothing.
use Rattle.std.proofs.Common.{arith}
use Rattle.std.proofs.lemmas.Grind.{common_steps}
use Rattle.columns.specs.words.Columns.{look}
use Rattle.columns.proofs.Laws.{look_whole}
use Rattle.control.specs.words.Words.{track_word}
use Rattle.control.proofs.track_word.Goals as goal

pub returns : goal.returns
unfolding track_word look
returns c = rw (look_whole _ _ _ c.told-track) (grind (arith, common_steps))
