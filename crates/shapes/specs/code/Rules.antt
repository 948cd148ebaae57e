-- The reader's rules by marks, whatever the columns hold: of a graph in columns, and of a graph whose nodes have marks.
use Rattle.std.specs.Prelude.{ℕ, min, Bool, ◌&&◌, not, List, length, replicate, eqb}
use Rattle.rules.specs.Track.{Pair}
use Rattle.rules.specs.Run.{arc_room, meeting_room}
use Rattle.control.specs.words.Views.{arcs_of, meetings_of}
use Rattle.graphs.specs.Graph.{Graph}
use Rattle.graphs.specs.Shape.{same, every, ascends, from_on}
use Rattle.links.specs.code.Linked.{side_words, linked, all_fit}
use Rattle.walks.specs.code.Walked.{walked, laid}
use Rattle.shape_rules.specs.code.Tests.{all_marked, meetings_fit}

module _ (ks xs ms : List ℕ) where
  -- each arc leads to a side that is free
  abbrev pub sides_fit : List Pair → Bool
  sides_fit as' = all_fit ms ks xs (replicate side_words 0) as'

  -- the walk numbers n nodes in the order that they have
  unfoldable pub as_walked : ℕ → List Pair → Bool
  as_walked n as' = same (walked ms (linked ms ks xs (replicate side_words 0) as')) (from_on 0 n)

-- the rules of the arcs and meetings among n nodes
abbrev pub pairs_fit : List ℕ → List ℕ → List ℕ → List ℕ → ℕ → List Pair → List Pair → Bool
pairs_fit ks ps xs ms n as' bs =
    ascends as'
    && (sides_fit ks xs ms as' && (as_walked ks xs ms n as' && (ascends bs && meetings_fit ps ms bs)))

-- all the rules, of columns with n nodes, c arcs and d meetings, of which the arcs and meetings past the rooms do not count
unfoldable pub has_shape : List ℕ → List ℕ → List ℕ → List ℕ → List ℕ → ℕ → ℕ → ℕ → Bool
has_shape ks ps xs ms w n c d =
    all_marked ms n && pairs_fit ks ps xs ms n (arcs_of w (min c arc_room)) (meetings_of w (min d meeting_room))

-- all the rules, of a graph whose nodes have these marks
unfoldable pub shaped : List ℕ → List ℕ → List ℕ → List ℕ → Graph → Bool
shaped ks ps xs marks g =
    every (λ m. not (eqb m 0)) marks
    && pairs_fit ks ps xs (laid marks) (length g.labels) g.arcs g.meetings
