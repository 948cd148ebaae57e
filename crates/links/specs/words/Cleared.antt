-- Room to work in behind a save or a read: zeros, but for what stays there.
use Rattle.std.specs.Prelude.{ℕ, List, replicate}
use Rattle.control.specs.words.Words.{reference_room, track_words}
use Rattle.links.specs.code.Linked.{side_words}
use Rattle.links.specs.declared.Graph.{Graph}
use Rattle.links.specs.declared.Work.{Work}

-- a graph of no node
abbrev pub no_graph : Graph
no_graph = record { labels = replicate reference_room 0; track = replicate track_words 0 }

-- zeros, but for the marks, the spare track and the graph's track
abbrev pub all_but : List ℕ → List ℕ → List ℕ → Work
all_but marks spare track = record {
  graph = record { labels = replicate reference_room 0; track = track };
  marks = marks;
  sides = replicate side_words 0;
  pending = replicate side_words 0;
  numbers = replicate reference_room 0;
  spare = spare;
}

-- zeros, but for the graph's track
abbrev pub cleared : List ℕ → Work
cleared track = all_but (replicate reference_room 0) (replicate track_words 0) track
