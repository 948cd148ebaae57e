-- `runs::start` meets its contract: the words are those of a run that has just been started, which hold it. Assumes
-- nothing.
use Rattle.std.proofs.Common.{refl}
use Rattle.runs.proofs.Promises.{begins}
use Rattle.runs.proofs.start.Goals as goal

pub returns : goal.returns
returns c = record { nodes_after = refl; track_after = refl; counters_after = refl; begins = begins _ _ _ refl refl refl }
