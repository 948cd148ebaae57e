-- The walk over a graph in columns, with the numbers that it gives.
use Rattle.std.specs.Prelude.{ℕ, suc, List, [], ◌∷◌, map, length, set, replicate, eqb}
use Rattle.std.proofs.lemmas.List.Edits.{sets}
use Rattle.lines.specs.Line.{choose}
use Rattle.control.specs.words.Words.{reference_room}
use Rattle.graphs.specs.Walk.{walk}
use Rattle.links.specs.words.Columns.{at}
use Rattle.links.specs.code.Linked.{side_words, on}

-- reference 0, where it has a mark
unfoldable pub first : List ℕ → List ℕ
first ms = choose (eqb (at ms 0) 0) [] (0 ∷ [])

-- the order of the walk over words of sides; each reference has at most two
unfoldable pub walked : List ℕ → List ℕ → List ℕ
walked ms w = walk side_words (on w) (first ms) []

-- one more than the number of each reference, the first of them having number k
unfoldable pub numbers_from : ℕ → List ℕ → List ℕ → List ℕ
numbers_from k [] w = w
numbers_from k (n ∷ ns) w = numbers_from (suc k) ns (set w n (suc k))

abbrev pub numbers : List ℕ → List ℕ
numbers o = numbers_from 0 o (replicate reference_room 0)

-- some words in front of a column of references
abbrev pub laid : List ℕ → List ℕ
laid xs = sets (replicate reference_room 0) 0 xs

-- the marks in the order of the numbers
abbrev pub marks_by : List ℕ → List ℕ → List ℕ
marks_by ms o = map (at ms) o

-- nodes with numbers: how many there are, one more than the number of each reference, and their marks by number
pub record NodesNumbered : Type 0 where
  pub count : ℕ
  pub numbers : List ℕ
  pub labels : List ℕ

abbrev pub with_numbers : ℕ → List ℕ → List ℕ → NodesNumbered
with_numbers n ns ls = record { count = n; numbers = ns; labels = ls }

-- the nodes of an order, numbered by it
abbrev pub by_order : List ℕ → List ℕ → NodesNumbered
by_order ms o = with_numbers (length o) (numbers o) (laid (marks_by ms o))

-- what the walk over words of sides leaves
abbrev pub nodes_numbered : List ℕ → List ℕ → NodesNumbered
nodes_numbered ms w = by_order ms (walked ms w)
