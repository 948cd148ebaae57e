-- What the words of a run tell of its track: arcs and meetings in the order made, the event nodes of a step, and the
-- place that a reference is labelled with.
use Rattle.std.specs.Prelude.{ℕ, zero, suc, ◌+◌, ◌*◌, List, [], ◌∷◌, eqb}
use Rattle.std.proofs.Math.Option.{Option, none, some}
use Rattle.lines.specs.Line.{choose}
use Rattle.places.specs.Place.{Place, left_path}
use Rattle.places.specs.declared.Literal.{Literal}
use Rattle.places.specs.declared.Literal.TheVariants.{Left, Own, Event}
use Rattle.marks.specs.words.Mark.{literal}
use Rattle.rules.specs.Track.{Pair, pair}
use Rattle.plans.specs.words.Plan.{Layout}
use Rattle.control.specs.words.Words.{track_word, event_node, meetings_from}
use Rattle.control.specs.words.Control.{label}

-- c pairs from number i on, of those that stand from a word on
unfoldable pub pairs : ℕ → List ℕ → ℕ → ℕ → List Pair
pairs base g i zero = []
pairs base g i (suc c) =
    pair (track_word g (base + 2 * i)) (track_word g (base + 2 * i + 1)) ∷ pairs base g (suc i) c

-- the first c arcs
abbrev pub arcs_of : List ℕ → ℕ → List Pair
arcs_of g c = pairs 0 g 0 c

-- the first c meetings
abbrev pub meetings_of : List ℕ → ℕ → List Pair
meetings_of g c = pairs meetings_from g 0 c

-- c event nodes of a step from number i on
unfoldable pub event_nodes : List ℕ → ℕ → ℕ → List ℕ
event_nodes g i zero = []
event_nodes g i (suc c) = event_node i g ∷ event_nodes g (suc i) c

-- the place of a literal
unfoldable pub literal_place : Layout → Literal → Place
literal_place l (Left d) = record { definition = d; path = left_path }
literal_place l (Own t) = l.place t
literal_place l (Event t) = l.event t

-- the place that a mark tells
abbrev pub place_told : Layout → ℕ → Place
place_told l m = literal_place l (literal m)

-- the place that reference n is labelled with
unfoldable pub marked : Layout → List ℕ → ℕ → Option Place
marked l w n = choose (eqb (label w n) 0) none (some (place_told l (label w n)))

unfoldable pub first_of : Option Place → Option Place → Option Place
first_of (some v) y = some v
first_of none y = y
