-- The saved track. Document 01, 'Lines' (Saved track) and 'Saving and reading': the graph by the numbers of the walk,
-- and its frames.
use Rattle.std.specs.Prelude.{ℕ, suc, Bool, List, [], ◌∷◌, ◌++◌, map, length}
use Rattle.std.proofs.Math.Option.{Option, none, some}
use Rattle.lines.specs.Line.{choose, two, text}
use Rattle.places.specs.Place.{Place}
use Rattle.rules.specs.Track.{Label, Pair, pair, lookup}
use Rattle.graphs.specs.Graph.{Graph, joins, meets}
use Rattle.graphs.specs.Walk.{order}

-- a number with its place, in front of others
unfoldable pub placed : ℕ → Option Place → List Label → List Label
placed k none ls = ls
placed k (some w) ls = record { reference = k; place = w } ∷ ls

-- the labels of references, numbered from k on
unfoldable pub numbered : List Label → ℕ → List ℕ → List Label
numbered ls k [] = []
numbered ls k (n ∷ ns) = placed k (lookup n ls) (numbered ls (suc k) ns)

-- number i, of reference n, with each of some numbered from j on that passes the test
unfoldable pub row : (ℕ → ℕ → Bool) → ℕ → ℕ → ℕ → List ℕ → List Pair
row t i n j [] = []
row t i n j (m ∷ ms) = choose (t n m) (pair i j ∷ row t i n (suc j) ms) (row t i n (suc j) ms)

-- each, numbered from i on, with each of all: ascending by i, then j
unfoldable pub rows : (ℕ → ℕ → Bool) → List ℕ → ℕ → List ℕ → List Pair
rows t all i [] = []
rows t all i (n ∷ ns) = row t i n 0 all ++ rows t all (suc i) ns

-- each, numbered from i on, with each behind it: i below j
unfoldable pub rows_up : (ℕ → ℕ → Bool) → ℕ → List ℕ → List Pair
rows_up t i [] = []
rows_up t i (n ∷ ns) = row t i n (suc i) ns ++ rows_up t (suc i) ns

-- the graph by its numbers
unfoldable pub canonical : Graph → Graph
canonical g = record {
  labels = numbered g.labels 0 (order g);
  arcs = rows (joins g.arcs) (order g) 0 (order g);
  meetings = rows_up (meets g.meetings) 0 (order g);
}

-- 30 01 nnnn aaaa ssss: nodes, arcs, meetings
unfoldable pub opening_frame : Graph → List ℕ
opening_frame g =
    0x30 ∷ 1 ∷ two (length g.labels) ++ two (length g.arcs) ++ two (length g.meetings)

-- 31 iiii dd ll path: a node
unfoldable pub node_frame : Label → List ℕ
node_frame l = 0x31 ∷ two l.reference ++ (l.place.definition ∷ length l.place.path ∷ l.place.path)

-- 32 iiii jjjj: an arc; 33 iiii jjjj: a meeting
unfoldable pub pair_frame : ℕ → Pair → List ℕ
pair_frame k a = k ∷ two a.from ++ two a.to

abbrev pub arc_code : ℕ
arc_code = 0x32

abbrev pub meeting_code : ℕ
meeting_code = 0x33

-- 3f
abbrev pub last_frame : List ℕ
last_frame = 0x3f ∷ []

-- the frames of a graph
unfoldable pub frames : Graph → List (List ℕ)
frames g =
    opening_frame g ∷ map node_frame g.labels ++ map (pair_frame arc_code) g.arcs
    ++ map (pair_frame meeting_code) g.meetings ++ (last_frame ∷ [])

-- the text of a graph, by its numbers as they are
abbrev pub graph_text : Graph → List ℕ
graph_text g = text (frames g)

-- the saved text of a track
abbrev pub saved : Graph → List ℕ
saved g = graph_text (canonical g)
