-- `framing::put_nodes` meets its contract. The loop's invariant: what is owed are the lines from node k
-- on; of the lent path only its length is known. Assumes nothing.
use Rattle.std.proofs.Common.{◌≡◌, ◌-◌, map, length}
use Rattle.lines.specs.Line.{text}
use Rattle.spelling.proofs.Putting.{Owed}
use Rattle.columns.specs.words.Columns.{columns}
use Rattle.graphs.specs.Saved.{node_frame}
use Rattle.framing.specs.words.Told.{labels_told}
use Rattle.framing.proofs.put_nodes.Given as goal

abbrev pub invariant-loop-k : goal.invariant-loop-k
invariant-loop-k l = (length l.path ≡ 64)
    × Owed (text (map node_frame (labels_told (columns l.table.kinds l.table.owners l.table.after l.table.roots) l.labels 0 l.count))) l.from l.initial.out
    (text (map node_frame (labels_told (columns l.table.kinds l.table.owners l.table.after l.table.roots) l.labels l.k (l.count - l.k)))) l.at l.out
