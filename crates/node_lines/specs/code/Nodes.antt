-- What the nodes' lines come to, whatever they are handed.
use Rattle.std.specs.Prelude.{ℕ, List, drop}
use Rattle.lines.specs.Line.{lines}
use Rattle.rules.specs.Track.{Label}
use Rattle.graphs.specs.Parsed.{frame_of, a_node, refusal}
use Rattle.finding.specs.words.Node.{label_at}
use Rattle.opening.specs.code.Phases.{Told, lines_read}

-- the lines of n nodes, for a table of d definitions: line 2 and those behind it
abbrev pub nodes_read : ℕ → ℕ → List ℕ → ℕ → Told Label
nodes_read d n text at =
    lines_read (λ bs. refusal d n a_node (frame_of bs)) label_at n 2 at (lines (drop at text))
