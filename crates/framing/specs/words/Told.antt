-- The graph that columns tell, whatever they hold.
use Rattle.std.specs.Prelude.{ℕ, zero, suc, min, List, [], ◌∷◌}
use Rattle.places.specs.Place.{Place}
use Rattle.columns.specs.words.Columns.{Columns}
use Rattle.marks.specs.words.Mark.{literal}
use Rattle.rules.specs.Track.{Label}
use Rattle.rules.specs.Run.{arc_room, meeting_room}
use Rattle.control.specs.words.Words.{reference_room, meetings_from}
use Rattle.plans.specs.words.Layout.{place_of}
use Rattle.control.specs.words.Views.{pairs}
use Rattle.graphs.specs.Graph.{Graph}
use Rattle.links.specs.words.Columns.{at}
use Rattle.links.specs.declared.GraphCounts.{GraphCounts}

module _ (c : Columns) where
  -- the place that a mark tells
  abbrev pub place_by : ℕ → Place
  place_by m = place_of c (literal m)

  -- n labels from number k on, by the marks of a column
  unfoldable pub labels_told : List ℕ → ℕ → ℕ → List Label
  labels_told ms k zero = []
  labels_told ms k (suc n) =
      record { reference = k; place = place_by (at ms k) } ∷ labels_told ms (suc k) n

  -- the graph with these counts, as much of it as there is room for
  unfoldable pub graph_told : List ℕ → List ℕ → GraphCounts → Graph
  graph_told ms g n = record {
    labels = labels_told ms 0 (min n.nodes reference_room);
    arcs = pairs 0 g 0 (min n.arcs arc_room);
    meetings = pairs meetings_from g 0 (min n.meetings meeting_room);
  }
