-- `run_parts::start_parts` meets its contract: the words are those of a start, and the stamp is set. Assumes nothing.
use Rattle.run_parts.proofs.Laws.{started}
use Rattle.run_parts.proofs.start_parts.Goals as goal

pub returns : goal.returns
returns c = started _ _ _ c.start.ensures.nodes_after c.start.ensures.track_after c.start.ensures.counters_after
