-- The counters of a run, and the rooms, whatever the words hold.
use Rattle.std.specs.Prelude.{ℕ, ◌+◌, ◌%◌, List, [], ◌∷◌, get_or, ltb}
use Rattle.lines.specs.Line.{choose}
use Rattle.rules.specs.Run.{cell_room, node_room, arc_room, meeting_room}
use Rattle.control.specs.words.Sums.{capped}
use Rattle.weights.specs.declared.Weight.{Weight}
use Rattle.drawing.specs.declared.Tally.{Tally}
use Rattle.leaves.specs.declared.Taken.{Taken}

abbrev pub counter : ℕ → List ℕ → ℕ
counter k c = get_or c k 0

-- the counters: reference, next fresh reference, cells, nodes, arcs, meetings
abbrev pub reference : List ℕ → ℕ
reference = counter 0

abbrev pub fresh : List ℕ → ℕ
fresh = counter 1

abbrev pub cells : List ℕ → ℕ
cells = counter 2

abbrev pub nodes : List ℕ → ℕ
nodes = counter 3

abbrev pub arcs : List ℕ → ℕ
arcs = counter 4

abbrev pub meetings : List ℕ → ℕ
meetings = counter 5

-- the lowest number of the rooms that a step would pass, 0 where it passes none
unfoldable pub over_room : Weight → List ℕ → ℕ
over_room w c =
    choose (ltb cell_room w.size) 8
    (choose (ltb node_room (capped (nodes c + w.nodes))) 9
    (choose (ltb arc_room (capped (arcs c + w.arcs))) 10
    (choose (ltb meeting_room (capped (meetings c + w.meetings))) 11 0)))

unfoldable pub tally_of : List ℕ → Tally
tally_of c = record { fresh = fresh c; nodes = nodes c; arcs = arcs c; meetings = meetings c; met = 0 }

abbrev pub narrow : ℕ → ℕ
narrow n = n % 65536

-- the counters after a step
unfoldable pub recounted : Taken → List ℕ
recounted d =
    narrow d.reference ∷ narrow d.tally.fresh ∷ narrow d.size ∷ narrow d.tally.nodes
    ∷ narrow d.tally.arcs ∷ narrow d.tally.meetings ∷ 0 ∷ 0 ∷ []
