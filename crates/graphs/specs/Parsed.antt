-- What a saved text says, line by line. Document 01, 'Lines' (Saved track) and 'Numbers of refusal', 1, 2 and 3.
use Rattle.std.specs.Prelude.{ℕ, ◌+◌, Bool, ◌&&◌, List, [], ◌∷◌, ◌++◌, length, get_or, drop, replicate, leb, ltb, eqb}
use Rattle.std.proofs.Math.Option.{Option, none, some}
use Rattle.lines.specs.Line.{choose, number_at, lines, frame}
use Rattle.lines.specs.Judging.{Judged, Judging, judged_from}
use Rattle.frames.specs.TableFrame.{path_room}
use Rattle.places.specs.Place.{Place}
use Rattle.rules.specs.Track.{Pair, pair}
use Rattle.rules.specs.Run.{node_room, arc_room, meeting_room}
use Rattle.graphs.specs.Graph.{Graph}
use Rattle.graphs.specs.Saved.{arc_code, meeting_code}

-- the frames of a saved track; any other bytes are wrong
pub data Frame : Type 0 where
  opening : (edition nodes arcs meetings : ℕ) → Frame
  node : ℕ → Place → Frame
  arc : Pair → Frame
  meeting : Pair → Frame
  last : Frame
  wrong : Frame

abbrev pub pair_at : List ℕ → Pair
pair_at bs = pair (number_at 1 bs) (number_at 3 bs)

abbrev pub place_at : List ℕ → Place
place_at bs = record { definition = get_or bs 3 0; path = drop 5 bs }

-- a frame's first byte is b and it has n bytes
abbrev pub formed : ℕ → ℕ → List ℕ → Bool
formed b n bs = eqb (get_or bs 0 0) b && eqb (length bs) n

-- the frame of a line's bytes
unfoldable pub frame_of : List ℕ → Frame
frame_of bs =
    choose (formed 0x31 (5 + get_or bs 4 0) bs) (node (number_at 1 bs) (place_at bs))
    (choose (formed arc_code 5 bs) (arc (pair_at bs))
    (choose (formed meeting_code 5 bs) (meeting (pair_at bs))
    (choose (formed 0x3f 1 bs) last
    (choose (formed 0x30 8 bs) (opening (get_or bs 1 0) (number_at 2 bs) (number_at 4 bs) (number_at 6 bs))
    wrong))))

-- what a line has to be
pub data Due : Type 0 where
  a_node : Due
  an_arc : Due
  a_meeting : Due
  the_last : Due

-- what is due behind line 1: the counts in it are the lines that follow
unfoldable pub dues : ℕ → ℕ → ℕ → List Due
dues n a s = replicate n a_node ++ replicate a an_arc ++ replicate s a_meeting ++ (the_last ∷ [])

-- both ends are below the node count
unfoldable pub ends_below : ℕ → Pair → Bool
ends_below n a = ltb a.from n && ltb a.to n

-- a path of at most 64 digits in a definition of the table, which has d
unfoldable pub in_range : ℕ → Place → Bool
in_range d w = leb (length w.path) path_room && ltb w.definition d

-- 3 where a number is outside its range
abbrev pub unless : Bool → ℕ
unless b = choose b 0 3

-- the number that a frame meets where it is due, in a track of n nodes for a table of d definitions
unfoldable pub refusal : ℕ → ℕ → Due → Frame → ℕ
refusal d n a_node (node i w) = unless (in_range d w)
refusal d n a_node (opening e k a s) = 2
refusal d n a_node (arc a) = 2
refusal d n a_node (meeting a) = 2
refusal d n a_node last = 2
refusal d n a_node wrong = 2
refusal d n an_arc (arc a) = unless (ends_below n a)
refusal d n an_arc (opening e k a s) = 2
refusal d n an_arc (node i w) = 2
refusal d n an_arc (meeting a) = 2
refusal d n an_arc last = 2
refusal d n an_arc wrong = 2
refusal d n a_meeting (meeting a) = unless (ends_below n a)
refusal d n a_meeting (opening e k a s) = 2
refusal d n a_meeting (node i w) = 2
refusal d n a_meeting (arc a) = 2
refusal d n a_meeting last = 2
refusal d n a_meeting wrong = 2
refusal d n the_last last = 0
refusal d n the_last (opening e k a s) = 2
refusal d n the_last (node i w) = 2
refusal d n the_last (arc a) = 2
refusal d n the_last (meeting a) = 2
refusal d n the_last wrong = 2

-- the number that line 1 meets: edition 01, and no count over the run's room
unfoldable pub first_refusal : Frame → ℕ
first_refusal (opening e n a s) =
    unless (eqb e 1 && (leb n node_room && (leb a arc_room && leb s meeting_room)))
first_refusal (node i w) = 2
first_refusal (arc a) = 2
first_refusal (meeting a) = 2
first_refusal last = 2
first_refusal wrong = 2

-- the graph with what a frame says behind it
unfoldable pub taken : Graph → Frame → Graph
taken g (node i w) = record {
  labels = g.labels ++ (record { reference = i; place = w } ∷ []);
  arcs = g.arcs;
  meetings = g.meetings;
}
taken g (arc a) = record { labels = g.labels; arcs = g.arcs ++ (a ∷ []); meetings = g.meetings }
taken g (meeting a) = record { labels = g.labels; arcs = g.arcs; meetings = g.meetings ++ (a ∷ []) }
taken g (opening e n a s) = g
taken g last = g
taken g wrong = g

abbrev pub nothing : Graph
nothing = record { labels = []; arcs = []; meetings = [] }

-- how far the lines of a saved text have come: before line 1, or, in a track of n nodes, by what is due and the graph
-- so far
pub data Stage : Type 0 where
  at_start : Stage
  due : (n : ℕ) → List Due → Graph → Stage

-- what the text says, once nothing is due
unfoldable pub whole_at : Stage → Option Graph
whole_at at_start = none
whole_at (due n [] g) = some g
whole_at (due n (x ∷ xs) g) = none

-- behind line 1, by its counts
unfoldable pub behind_first : Frame → Stage
behind_first (opening e n a s) = due n (dues n a s) nothing
behind_first (node i w) = at_start
behind_first (arc a) = at_start
behind_first (meeting a) = at_start
behind_first last = at_start
behind_first wrong = at_start

-- how far the lines have come behind one that meets no number
unfoldable pub stage_behind : Stage → List ℕ → Stage
stage_behind at_start bs = behind_first (frame_of bs)
stage_behind (due n [] g) bs = due n [] g
stage_behind (due n (x ∷ xs) g) bs = due n xs (taken g (frame_of bs))

module _ (d : ℕ) where
  -- the number that a line's bytes meet; behind the last line any are a frame out of place
  unfoldable pub number_met : Stage → List ℕ → ℕ
  number_met at_start bs = first_refusal (frame_of bs)
  number_met (due n [] g) bs = 2
  number_met (due n (x ∷ xs) g) bs = refusal d n x (frame_of bs)

  -- how the lines of a saved text are judged, for a table of d definitions
  abbrev pub track_lines : Judging Stage Graph
  track_lines = record { reads = frame; whole = whole_at; number = number_met; behind = stage_behind }

  -- what a saved text says
  abbrev pub parsed : List ℕ → Judged Graph
  parsed text = judged_from track_lines at_start 1 (lines text)
