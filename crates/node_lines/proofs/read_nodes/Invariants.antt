-- `node_lines::read_nodes` meets its contract. The loop's invariant: so many nodes are read, their marks stand in the column, and
-- all lines tell them with what the lines from the cursor on tell. Assumes nothing.
use Rattle.node_lines.proofs.Laws.{NodesSofar}
use Rattle.node_lines.proofs.read_nodes.Given as goal

abbrev pub invariant-loop-k : goal.invariant-loop-k
invariant-loop-k l = NodesSofar l.text l.definitions l.count l.table.kinds l.table.after l.table.roots l.from l.initial.labels l.labels l.k l.at
