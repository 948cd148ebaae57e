-- The rules that are tested item by item, by marks, whatever the columns hold.
use Rattle.std.specs.Prelude.{ℕ, Bool, ◌&&◌, not, List, eqb}
use Rattle.frames.specs.TableFrame.{term_room}
use Rattle.columns.specs.words.Columns.{look}
use Rattle.marks.specs.words.Mark.{is_event, term_of}
use Rattle.rules.specs.Track.{Pair}
use Rattle.graphs.specs.Shape.{every, upward, from_on}
use Rattle.links.specs.words.Columns.{at}

-- two marks are of events, and of one
unfoldable pub one_event : List ℕ → ℕ → ℕ → Bool
one_event ps m n =
    is_event m && (is_event n && eqb (look term_room ps (term_of m)) (look term_room ps (term_of n)))

-- each of n nodes has a mark
abbrev pub all_marked : List ℕ → ℕ → Bool
all_marked ms n = every (λ k. not (eqb (at ms k) 0)) (from_on 0 n)

module _ (ps ms : List ℕ) where
  -- a meeting joins event nodes of one event
  abbrev pub joins_events : Pair → Bool
  joins_events a = one_event ps (at ms a.from) (at ms a.to)

  -- meetings join event nodes of one event, the lower number first
  abbrev pub meetings_fit : List Pair → Bool
  meetings_fit bs = every upward bs && every joins_events bs
