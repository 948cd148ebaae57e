-- `framing::nodes_length` meets its contract. The loop's invariant: the length so far, with the length
-- of the lines from node k on, is that of all. Assumes nothing.
use Rattle.std.proofs.Common.{◌≡◌, ◌+◌, ◌-◌, map}
use Rattle.std.proofs.Math.ListN as list
use Rattle.lines.specs.Line.{text}
use Rattle.columns.specs.words.Columns.{columns}
use Rattle.graphs.specs.Saved.{node_frame}
use Rattle.framing.specs.words.Told.{labels_told}
use Rattle.framing.proofs.nodes_length.Given as goal

abbrev pub invariant-loop-k : goal.invariant-loop-k
invariant-loop-k l = l.length
    + list.length (text (map node_frame (labels_told (columns l.table.kinds l.table.owners l.table.after l.table.roots) l.labels l.k (l.count - l.k))))
    ≡ list.length (text (map node_frame (labels_told (columns l.table.kinds l.table.owners l.table.after l.table.roots) l.labels 0 l.count)))
