-- The shape of a saved track. Document 01, 'Saving and reading': the reader judges shape against a table, not history.
-- Each rule is told of any graph, cycles included; where one is broken the refusal is 13, with line 0.
use Rattle.std.specs.Prelude.{ℕ, zero, suc, Bool, true, false, ◌&&◌, ◌||◌, List, [], ◌∷◌, length, leb, ltb, eqb}
use Rattle.std.proofs.Math.Option.{Option, none, some}
use Rattle.std.proofs.Math.ListN.{get_elem?}
use Rattle.lines.specs.Line.{choose}
use Rattle.lines.specs.Judging.{Judged, accepted, refused}
use Rattle.terms.specs.Term.{Term, leaf, prefix, binary, internal, external, sequence, parallel}
use Rattle.places.specs.Place.{Place, left_path, Literal, own, event, literal_at, term_at}
use Rattle.rules.specs.Track.{Label, Pair, lookup}
use Rattle.graphs.specs.Graph.{Graph, keep, targets, side}
use Rattle.graphs.specs.Walk.{order}
use Rattle.graphs.specs.Parsed.{parsed}

-- two lists of numbers are the same
unfoldable pub same : List ℕ → List ℕ → Bool
same [] [] = true
same [] (y ∷ ys) = false
same (x ∷ xs) [] = false
same (x ∷ xs) (y ∷ ys) = eqb x y && same xs ys

-- every one passes a test
unfoldable pub every {ℓ} : {A : Type ℓ} → (A → Bool) → List A → Bool
every t [] = true
every t (x ∷ xs) = t x && every t xs

-- nodes come in number order, from k on
unfoldable pub in_order : ℕ → List Label → Bool
in_order k [] = true
in_order k (l ∷ ls) = eqb l.reference k && in_order (suc k) ls

-- the literal of a right-hand side that stands at a place
unfoldable pub in_definition : Option Term → List ℕ → Option Literal
in_definition none p = none
in_definition (some t) p = literal_at t p

-- the term that a literal is of
unfoldable pub in_term : Option Term → ℕ → Option Term
in_term none n = none
in_term (some t) n = some (term_at t n)

module _ (ts : List Term) where
  abbrev pub root_of : Place → Option Term
  root_of w = get_elem? ts w.definition

  abbrev pub literal_of : Place → Option Literal
  literal_of w = in_definition (root_of w) w.path

  -- a place in a right-hand side
  unfoldable pub there : Option Literal → Bool
  there none = false
  there (some l) = true

  -- node 0 alone has path 0 of definition 00, any other a place in a right-hand side
  unfoldable pub placed : Label → Bool
  placed l =
      choose (eqb l.reference 0) (eqb l.place.definition 0 && same l.place.path left_path)
      (there (literal_of l.place))

  -- an external choice or a parallel
  unfoldable pub splits_term : Option Term → Bool
  splits_term none = false
  splits_term (some (leaf l)) = false
  splits_term (some (prefix e t)) = false
  splits_term (some (binary internal t u)) = false
  splits_term (some (binary external t u)) = true
  splits_term (some (binary sequence t u)) = false
  splits_term (some (binary (parallel x) t u)) = true

  unfoldable pub splits_literal : Option Term → Option Literal → Bool
  splits_literal r none = false
  splits_literal r (some (own n)) = splits_term (in_term r n)
  splits_literal r (some (event n)) = false

  -- an external choice or a parallel stands at a place
  abbrev pub splits : Place → Bool
  splits w = splits_literal (root_of w) (literal_of w)

  module _ (g : Graph) where
    -- at most one arc to a place at or under x below the node
    abbrev pub one_on : ℕ → ℕ → Bool
    one_on x n = leb (length (keep (side g x n) (targets g n))) 1

    -- an external choice or parallel at w has no arcs but at most one to a place at or under w.1 and one to a place at or
    -- under w.2, any other node at most one arc
    unfoldable pub branches : Label → Bool
    branches l =
        choose (splits l.place)
        (every (λ m. side g 1 l.reference m || side g 2 l.reference m) (targets g l.reference)
        && (one_on 1 l.reference && one_on 2 l.reference))
        (leb (length (targets g l.reference)) 1)

  -- the event of a prefix's event
  unfoldable pub event_of_term : Option Term → Option ℕ
  event_of_term none = none
  event_of_term (some (leaf l)) = none
  event_of_term (some (prefix e t)) = some e
  event_of_term (some (binary o t u)) = none

  unfoldable pub event_of_literal : Option Term → Option Literal → Option ℕ
  event_of_literal r none = none
  event_of_literal r (some (own n)) = none
  event_of_literal r (some (event n)) = event_of_term (in_term r n)

  unfoldable pub event_of : Option Place → Option ℕ
  event_of none = none
  event_of (some w) = event_of_literal (root_of w) (literal_of w)

  unfoldable pub one_event : Option ℕ → Option ℕ → Bool
  one_event none f = false
  one_event (some e) none = false
  one_event (some e) (some f) = eqb e f

  -- meetings join event nodes of one event
  unfoldable pub joins_events : Graph → Pair → Bool
  joins_events g m =
      one_event (event_of (lookup m.from g.labels)) (event_of (lookup m.to g.labels))

-- one pair is before another: by i, then j
unfoldable pub before : Pair → Pair → Bool
before a b = ltb a.from b.from || (eqb a.from b.from && ltb a.to b.to)

unfoldable pub before_first : Pair → List Pair → Bool
before_first a [] = true
before_first a (b ∷ bs) = before a b

-- pairs ascend, and none is repeated
unfoldable pub ascends : List Pair → Bool
ascends [] = true
ascends (a ∷ as') = before_first a as' && ascends as'

-- a meeting's i is below j
unfoldable pub upward : Pair → Bool
upward m = ltb m.from m.to

-- the numbers from k on
unfoldable pub from_on : ℕ → ℕ → List ℕ
from_on k zero = []
from_on k (suc n) = k ∷ from_on (suc k) n

-- numbering is the walk's and reaches all
unfoldable pub walked : Graph → Bool
walked g = same (order g) (from_on 0 (length g.labels))

-- all the rules
unfoldable pub shaped : List Term → Graph → Bool
shaped ts g =
    in_order 0 g.labels
    && (every (placed ts) g.labels
    && (ascends g.arcs
    && (every (branches ts g) g.labels
    && (walked g
    && (ascends g.meetings
    && (every upward g.meetings && every (joins_events ts g) g.meetings))))))

-- what a saved text is against a table: its graph, or a refusal's number and line
unfoldable pub judged : List Term → Judged Graph → Judged Graph
judged ts (accepted g) = choose (shaped ts g) (accepted g) (refused 13 0)
judged ts (refused n k) = refused n k

abbrev pub read : List Term → List ℕ → Judged Graph
read ts text = judged ts (parsed (length ts) text)
