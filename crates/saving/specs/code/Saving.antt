-- What saving comes to, whatever the words hold.
use Rattle.std.specs.Prelude.{ℕ, zero, suc, min, List, [], ◌∷◌}
use Rattle.columns.specs.words.Columns.{Columns, columns}
use Rattle.control.specs.words.Words.{reference_room}
use Rattle.control.specs.words.Control.{label}
use Rattle.counting.specs.code.Counting.{fresh, arcs, meetings}
use Rattle.graphs.specs.Graph.{Graph}
use Rattle.graphs.specs.Saved.{graph_text}
use Rattle.walks.specs.code.Walked.{laid}
use Rattle.numbering.specs.code.Numbered.{GraphNumbered, graph_numbered}
use Rattle.framing.specs.words.Told.{graph_told}

-- the marks of n references from number k on
unfoldable pub marks_from : List ℕ → ℕ → ℕ → List ℕ
marks_from w k zero = []
marks_from w k (suc n) = label w k ∷ marks_from w (suc k) n

module _ (ks xs w g c : List ℕ) where
  -- the marks of the references that are drawn
  unfoldable pub marks : List ℕ
  marks = laid (marks_from w 0 (min (fresh c) reference_room))

  -- the numbered graph
  abbrev pub graph_saved : GraphNumbered
  graph_saved = graph_numbered marks ks xs g (arcs c) (meetings c)

-- the graph that a numbered one tells, with the places of a table's columns
abbrev pub numbered_told : Columns → GraphNumbered → Graph
numbered_told c n = graph_told c n.labels n.track n.counts

-- the text that is saved
unfoldable pub text_of : List ℕ → List ℕ → List ℕ → List ℕ → List ℕ → List ℕ → List ℕ → List ℕ
text_of ks os xs rs w g c =
    graph_text (numbered_told (columns ks os xs rs) (graph_saved ks xs w g c))
