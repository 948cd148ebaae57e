-- A graph in columns: the mark of each reference, and arcs and meetings as a run's track has them. Out of range a word is 0,
-- and nothing is put.
use Rattle.std.specs.Prelude.{ℕ, ◌%◌, List, [], ◌∷◌, length, set, ltb}
use Rattle.lines.specs.Line.{choose}
use Rattle.columns.specs.words.Columns.{look}
use Rattle.control.specs.words.Words.{reference_room}
use Rattle.rules.specs.Track.{Pair}
use Rattle.graphs.specs.Graph.{Graph}
use Rattle.links.specs.declared.GraphCounts.{GraphCounts}

-- word i of n put
unfoldable pub put : ℕ → List ℕ → ℕ → ℕ → List ℕ
put n w i v = choose (ltb i n) (set w i (v % 65536)) w

-- what a column of references has of one
abbrev pub at : List ℕ → ℕ → ℕ
at = look reference_room

-- the words of pairs
unfoldable pub flat : List Pair → List ℕ
flat [] = []
flat (a ∷ as') = a.from ∷ a.to ∷ flat as'

-- how many nodes, arcs and meetings a graph has
abbrev pub counts_of : Graph → GraphCounts
counts_of g = record { nodes = length g.labels; arcs = length g.arcs; meetings = length g.meetings }
