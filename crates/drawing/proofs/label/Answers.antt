-- `drawing::label` meets its contract: it puts the label, and counts a node. Assumes nothing.
use Rattle.drawing.proofs.Laws.{node_counted, label_put}
use Rattle.drawing.proofs.label.Goals as goal

pub returns : goal.returns
returns c = record { value = node_counted _ _ c.sum.ensures; nodes_after = label_put _ _ _ _ c.put.ensures }
