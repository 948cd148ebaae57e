-- A track as a graph. Document 01, 'Saving and reading': only labelled nodes are saved, and arcs and meetings whose two
-- ends are labelled; of two arcs the .1 side comes first.
use Rattle.std.specs.Prelude.{ℕ, Bool, true, false, ◌&&◌, ◌||◌, not, List, [], ◌∷◌, ◌++◌, eqb}
use Rattle.std.proofs.Math.Option.{Option, none, some}
use Rattle.lines.specs.Line.{choose}
use Rattle.places.specs.Place.{Place, under}
use Rattle.rules.specs.Track.{Label, Pair, lookup}
use Rattle.rules.specs.Run.{State}

-- labelled references, arcs and meetings
pub record Graph : Type 0 where
  pub labels : List Label
  pub arcs : List Pair
  pub meetings : List Pair

-- the graph of a run's track
abbrev pub graph_of : State → Graph
graph_of s = record { labels = s.labels; arcs = s.arcs; meetings = s.meetings }

-- there is a place
unfoldable pub present : Option Place → Bool
present none = false
present (some w) = true

-- a reference is labelled
abbrev pub labelled : Graph → ℕ → Bool
labelled g n = present (lookup n g.labels)

-- those of some references that pass a test
unfoldable pub keep : (ℕ → Bool) → List ℕ → List ℕ
keep t [] = []
keep t (n ∷ ns) = choose (t n) (n ∷ keep t ns) (keep t ns)

-- where the arcs from a reference lead
unfoldable pub heads : ℕ → List Pair → List ℕ
heads n [] = []
heads n (a ∷ as') = choose (eqb n a.from) (a.to ∷ heads n as') (heads n as')

-- the labelled ones of them
abbrev pub targets : Graph → ℕ → List ℕ
targets g n = keep (labelled g) (heads n g.arcs)

-- one place is at or under x below the other
unfoldable pub on_side : ℕ → Option Place → Option Place → Bool
on_side x none v = false
on_side x (some w) none = false
on_side x (some w) (some v) = under w x v

-- reference m has a place at or under x below that of reference n
abbrev pub side : Graph → ℕ → ℕ → ℕ → Bool
side g x n m = on_side x (lookup n g.labels) (lookup m g.labels)

-- where the walk goes on from a node, the .1 side first
unfoldable pub next : Graph → ℕ → List ℕ
next g n = keep (side g 1 n) (targets g n) ++ keep (λ m. not (side g 1 n m)) (targets g n)

-- one of some pairs leads from n to m
unfoldable pub joins : List Pair → ℕ → ℕ → Bool
joins [] n m = false
joins (a ∷ as') n m = (eqb n a.from && eqb m a.to) || joins as' n m

-- two references meet, in either order
abbrev pub meets : List Pair → ℕ → ℕ → Bool
meets ms n m = joins ms n m || joins ms m n
