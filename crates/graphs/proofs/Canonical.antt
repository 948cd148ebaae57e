-- The canonical graph is the graph by its numbers. Its labels, arcs and meetings at numbers are those of
-- the graph at the references in their order, so the map from numbers to references carries the one to
-- the other, and its order is the numbers in order: it is walked. A graph of the reader's shape is its own
-- canonical graph, and no canonical graph has more labels, arcs or meetings than its graph. Assumes
-- nothing.
use Rattle.std.proofs.Common.{ℕ, suc, ◌≤◌, ◌<◌, ◌≡◌, refl, sym, ap, ◌∙◌, Bool, true, false, ◌&&◌, ◌||◌, not}
use Rattle.std.proofs.Common.{List, [], ◌∷◌, arith, zero-add, length, get_or, ltb, eqb, eqb-true, eq-eqb}
use Rattle.std.proofs.Common.{ne_eqb, ltb-true, ltb-false, lt-ltb, le-ltb}
use Rattle.std.proofs.Math.Bool.{or_comm}
use Rattle.std.proofs.Math.Option.{Option, none, some}
use Rattle.std.proofs.Math.ListN.{get_elem?}
use Rattle.lines.specs.Line.{choose}
use Rattle.lines.proofs.Digits.{both}
use Rattle.terms.specs.Term.{Term}
use Rattle.places.specs.Place.{Place}
use Rattle.rules.specs.Track.{Pair, lookup, Label}
use Rattle.rules.proofs.Marked.{one, tally}
use Rattle.rules.proofs.Weighed.{sum, sum_none}
use Rattle.graphs.specs.Graph.{joins, meets, Graph, labelled, keep, targets, side, present, heads}
use Rattle.graphs.specs.Walk.{among, walk, order}
use Rattle.graphs.specs.Saved.{placed, numbered, canonical}
use Rattle.graphs.specs.Parsed.{ends_below}
use Rattle.graphs.specs.Shape as Shape
use Rattle.graphs.specs.Shape.{every, ascends, upward, from_on, in_order, walked, shaped, branches}
use Rattle.graphs.proofs.Walking.{Distinct, Within, among_first, within_rest, sum_both, sum_least}
use Rattle.graphs.proofs.Walking.{sum_each, sum_one}
use Rattle.graphs.proofs.Ordered.{among_heads, targets_joined, next_targets, order_distinct}
use Rattle.graphs.proofs.Ordered.{order_labelled, order_begins, order_closed, label_counted}
use Rattle.graphs.proofs.References.{element_there, element_outside, element_among, distinct_numbers}
use Rattle.graphs.proofs.References.{number_in, number_there, few_alike, alike_few, keep_distinct}
use Rattle.graphs.proofs.References.{map_apart, map_numbers, from_on_among, same_true, same_itself}
use Rattle.graphs.proofs.Pairs.{ascends_once, ascends_rest}
use Rattle.graphs.proofs.Rows.{reference_at, reference_below, reference_first, tested, rows_joins}
use Rattle.graphs.proofs.Rows.{rows_up_joins, rows_inside, rows_ascend, rows_up_ascend, rows_below}
use Rattle.graphs.proofs.Rows.{rows_up_below, rows_up_upward, rows_again, rows_up_again, rows_few}
use Rattle.graphs.proofs.Rows.{rows_up_few}
use Rattle.graphs.proofs.Renaming.{Narrow, among_ways, way_parts, Carries, side_carried, order_carried}

-- the place of a reference, where there is one
unfoldable pub place_of : List Label → Option ℕ → Option Place
place_of ls none = none
place_of ls (some r) = lookup r ls

module _ (ls : List Label) where
  -- the label of a number is that of its reference
  numbered_lookup : (k : ℕ) (ns : List ℕ) (j : ℕ)
      → lookup j (numbered ls k ns) ≡ place_of ls (reference_at k ns j)
  unfolding numbered lookup place_of reference_at placed
  numbered_lookup k [] j = refl
  numbered_lookup k (n ∷ ns) j = go (lookup n ls) (eqb j k) refl refl (numbered_lookup (suc k) ns j)
    where
      go : (w : Option Place) (b : Bool) → lookup n ls ≡ w → eqb j k ≡ b
          → lookup j (numbered ls (suc k) ns) ≡ place_of ls (reference_at (suc k) ns j)
          → lookup j (placed k w (numbered ls (suc k) ns))
          ≡ place_of ls (choose b (some n) (reference_at (suc k) ns j))
      go none true p q h = h ∙ rw (reference_below (suc k) ns j (omega (arith, eqb-true j k q))) (sym p)
      go none false p q h = h
      go (some w) true p q h = rw q (sym p)
      go (some w) false p q h = rw q h

  -- where all references are labelled, each number has a label
  numbered_each : (k : ℕ) (ns : List ℕ) → Within (λ n. present (lookup n ls) ≡ true) ns
      → (length (numbered ls k ns) ≡ length ns) × (in_order k (numbered ls k ns) ≡ true)
  unfolding numbered in_order placed present
  numbered_each k [] h = (refl, refl)
  numbered_each k (n ∷ ns) h =
      go (lookup n ls) (h n (among_first n ns)) (numbered_each (suc k) ns (within_rest _ n ns h))
    where
      go : (w : Option Place) → present w ≡ true
          → (length (numbered ls (suc k) ns) ≡ length ns) × (in_order (suc k) (numbered ls (suc k) ns) ≡ true)
          → (length (placed k w (numbered ls (suc k) ns)) ≡ suc (length ns))
          × (in_order k (placed k w (numbered ls (suc k) ns)) ≡ true)
      go none e further = let z : ◌≡◌ {A = ℕ} 0 1 = cc in absurd (omega arith)
      go (some w) e (long, up) = (ap suc long, rw (eq-eqb k k refl) up)

-- labels in number order are the labels of their numbers in order
numbered_again : (ls : List Label) (k : ℕ) (ms : List Label) → in_order k ms ≡ true
    → ((j : ℕ) → k ≤ j → lookup j ls ≡ lookup j ms) → numbered ls k (from_on k (length ms)) ≡ ms
unfolding numbered from_on in_order lookup placed
numbered_again ls k [] up h = refl
numbered_again ls k (m ∷ ms) up h =
    let (here, rest) = both (eqb m.reference k) _ up in
    let is = eqb-true m.reference k here in
    let found : lookup k ls ≡ some m.place = h k (omega arith) ∙ rw (eq-eqb k m.reference (sym is)) in
    let further = numbered_again ls (suc k) ms rest (λ j l.
    h j (omega arith) ∙ rw (ne_eqb j m.reference (λ e. omega arith))) in
    rw (found, further) (ap (λ r. record { reference = r; place = m.place } ∷ ms) (sym is))

module _ (g : Graph) where
  -- what a number is labelled with
  pub canonical_lookup : (k : ℕ)
      → lookup k (canonical g).labels ≡ place_of g.labels (get_elem? (order g) k)
  unfolding canonical
  canonical_lookup k =
      numbered_lookup g.labels 0 (order g) k ∙ ap (place_of g.labels) (reference_first (order g) k)

  -- the label of its reference
  pub canonical_labels : (k r : ℕ) → get_elem? (order g) k ≡ some r
      → lookup k (canonical g).labels ≡ lookup r g.labels
  unfolding place_of
  canonical_labels k r e = canonical_lookup k ∙ rw e

  -- each number has one
  pub canonical_length : length (canonical g).labels ≡ length (order g)
  unfolding canonical
  canonical_length = (numbered_each g.labels 0 (order g) (order_labelled g)).0

  -- in number order
  pub canonical_in_order : in_order 0 (canonical g).labels ≡ true
  unfolding canonical
  canonical_in_order = (numbered_each g.labels 0 (order g) (order_labelled g)).1

  -- no other has
  pub canonical_outside : (k : ℕ) → length (order g) ≤ k → lookup k (canonical g).labels ≡ none
  unfolding place_of
  canonical_outside k h = canonical_lookup k ∙ rw (element_outside (order g) k h)

  -- so those below the count are labelled
  pub canonical_labelled : (k : ℕ) → labelled (canonical g) k ≡ ltb k (length (order g))
  unfolding present
  canonical_labelled k = go (ltb k (length (order g))) refl
    where
      go : (b : Bool) → ltb k (length (order g)) ≡ b → labelled (canonical g) k ≡ b
      go true e =
          let inside = ltb-true k (length (order g)) e in
          ap present (canonical_labels k (get_or (order g) k 0) (element_there (order g) k inside))
          ∙ order_labelled g (get_or (order g) k 0) (element_among (order g) k inside)
      go false e = ap present (canonical_outside k (ltb-false k (length (order g)) e))

  -- numbers are joined where their references are
  pub canonical_arcs : (i j : ℕ)
      → joins (canonical g).arcs i j ≡ tested (joins g.arcs) (get_elem? (order g) i) (get_elem? (order g) j)
  unfolding canonical
  canonical_arcs i j = rows_joins (joins g.arcs) (order g) i j

  -- and meet, the smaller first, where they do
  pub canonical_meetings : (i j : ℕ)
      → joins (canonical g).meetings i j
      ≡ ltb i j && tested (meets g.meetings) (get_elem? (order g) i) (get_elem? (order g) j)
  unfolding canonical
  canonical_meetings i j = rows_up_joins (meets g.meetings) (order g) i j

  -- two that are not the same meet, in either order, where their references do
  pub canonical_meets : (i j : ℕ) → (i ≡ j → ⊥)
      → meets (canonical g).meetings i j
      ≡ tested (meets g.meetings) (get_elem? (order g) i) (get_elem? (order g) j)
  unfolding tested
  canonical_meets i j other =
      rw (canonical_meetings i j, canonical_meetings j i)
      (go (ltb i j) (ltb j i) refl refl (turned (get_elem? (order g) i) (get_elem? (order g) j)))
    where
      turned : (x y : Option ℕ) → tested (meets g.meetings) y x ≡ tested (meets g.meetings) x y
      turned none none = refl
      turned none (some m) = refl
      turned (some n) none = refl
      turned (some n) (some m) = or_comm (joins g.meetings m n) (joins g.meetings n m)

      go : {s t : Bool} (b c : Bool) → ltb i j ≡ b → ltb j i ≡ c → t ≡ s → (b && s) || (c && t) ≡ s
      go {s = true} true c p q e = refl
      go {s = false} true true p q e = e
      go {s = false} true false p q e = refl
      go false true p q e = e
      go false false p q e = absurd (other (omega (arith, ltb-false i j p, ltb-false j i q)))

-- ascending arcs lead to distinct references
heads_distinct : (n : ℕ) (as' : List Pair) → ascends as' ≡ true → Distinct (heads n as')
unfolding heads
heads_distinct n [] up = tt
heads_distinct n (a ∷ as') up = go (eqb n a.from) refl (heads_distinct n as' (ascends_rest a as' up))
  where
    go : (b : Bool) → eqb n a.from ≡ b → Distinct (heads n as')
        → Distinct (choose b (a.to ∷ heads n as') (heads n as'))
    go true e d = (among_heads n a.to as' ∙ rw (eqb-true n a.from e) (ascends_once a as' up), d)
    go false e d = d

-- distinct references are labelled no more often than there are labels
labels_load : (ls : List Label) (xs : List ℕ) → Distinct xs → sum (λ n. tally n ls) xs ≤ length ls
unfolding tally
labels_load [] xs d = omega (arith, sum_none xs)
labels_load (l ∷ ls) xs d =
    omega (
      arith,
      sum_both (λ n. one n l.reference) (λ n. tally n ls) xs,
      sum_one l.reference xs d,
      labels_load ls xs d,
    )

-- where 0 is not labelled, nothing is walked
order_none : (g : Graph) → labelled g 0 ≡ false → order g ≡ []
unfolding order walk keep
order_none g h = rw h

module _ (g : Graph) where
  -- how many numbers there are
  abbrev count : ℕ
  count = length (order g)

  -- the reference of a number
  abbrev pub reference_of : ℕ → ℕ
  reference_of k = get_or (order g) k 0

  -- the number of a reference
  abbrev pub number_of : ℕ → ℕ
  number_of n = number_in (order g) n

  -- number 0 is labelled where reference 0 is
  pub canonical_start : labelled g 0 ≡ labelled (canonical g) 0
  canonical_start = go (labelled g 0) refl
    where
      go : (b : Bool) → labelled g 0 ≡ b → b ≡ labelled (canonical g) 0
      go true e =
          let (rest, is) = order_begins g e in
          sym (canonical_labelled g 0 ∙ lt-ltb 0 count (rw is (omega arith)))
      go false e = sym (canonical_labelled g 0 ∙ le-ltb 0 count (rw (order_none g e) (omega arith)))

  -- numbers are carried to their references
  pub canonical_carries : Carries (λ k. k < count) reference_of (canonical g) g
  unfolding tested
  canonical_carries = record {
    apart = distinct_numbers (order g) (order_distinct g);
    places = λ k l. sym (canonical_labels g k (reference_of k) (element_there (order g) k l));
    arcs = λ i j p q. sym (canonical_arcs g i j ∙ found i j p q);
    stays = λ i j p joined placed. ltb-true j count (sym (canonical_labelled g j) ∙ placed);
    reaches = λ k m p joined placed.
        let reached = order_closed g (reference_of k) m (element_among (order g) k p)
        (next_targets g (reference_of k) m ∙ targets_joined g (reference_of k) m ∙ rw (placed, joined)) in
        let (inside, is) = number_there (order g) m reached in
        (number_of m, inside, is);
    start = canonical_start;
    first = λ e. let (rest, is) = order_begins g (canonical_start ∙ e) in (rw is (omega arith), rw is);
  }
    where
      found : (i j : ℕ) → i < count → j < count
          → tested (joins g.arcs) (get_elem? (order g) i) (get_elem? (order g) j)
          ≡ joins g.arcs (reference_of i) (reference_of j)
      found i j p q = rw (element_there (order g) i p, element_there (order g) j q)

  -- two numbers meet where their references do
  pub meets_at : (i j : ℕ) → i < count → j < count → (i ≡ j → ⊥)
      → meets (canonical g).meetings i j ≡ meets g.meetings (reference_of i) (reference_of j)
  unfolding tested
  meets_at i j p q other =
      canonical_meets g i j other ∙ rw (element_there (order g) i p, element_there (order g) j q)

  -- its arcs and meetings ascend, between its numbers, and its meetings are told from the smaller
  pub canonical_arcs_ascend : ascends (canonical g).arcs ≡ true
  unfolding canonical
  canonical_arcs_ascend = rows_ascend (joins g.arcs) (order g)

  pub canonical_meetings_ascend : ascends (canonical g).meetings ≡ true
  unfolding canonical
  canonical_meetings_ascend = rows_up_ascend (meets g.meetings) (order g)

  pub canonical_upward : every upward (canonical g).meetings ≡ true
  unfolding canonical
  canonical_upward = rows_up_upward (meets g.meetings) (order g)

  pub canonical_arcs_below : every (ends_below (length (canonical g).labels)) (canonical g).arcs ≡ true
  unfolding canonical
  canonical_arcs_below = rw (canonical_length g) (rows_below (joins g.arcs) (order g))

  pub canonical_meetings_below :
      every (ends_below (length (canonical g).labels)) (canonical g).meetings ≡ true
  unfolding canonical
  canonical_meetings_below = rw (canonical_length g) (rows_up_below (meets g.meetings) (order g))

  -- a way on of a number is one of its reference
  module _ (k : ℕ) (t u : ℕ → Bool) (alike : (m : ℕ) → k < count → m < count → u (reference_of m) ≡ t m) where
    pub ways_back : (n : ℕ) → among n (keep t (targets (canonical g) k)) ≡ true
        → (n < count) × (among (reference_of n) (keep u (targets g (reference_of k))) ≡ true)
    unfolding canonical
    ways_back n e =
        let way = sym (among_ways (canonical g) t k n) ∙ e in
        let (kind, placed, joined) = way_parts (canonical g) t k n way in
        let (at_k, at_n) = rows_inside (joins g.arcs) (order g) k n joined in
        let arc = canonical_carries.arcs k n at_k at_n ∙ joined in
        let place = ap present (canonical_carries.places n at_n) ∙ placed in
        let side = alike n at_k at_n ∙ kind in
        (at_n, among_ways g u (reference_of k) (reference_of n) ∙ rw (side, place, arc))

    -- so a number has at most one where its reference has
    pub ways_few : length (keep u (targets g (reference_of k))) ≤ 1
        → length (keep t (targets (canonical g) k)) ≤ 1
    ways_few few =
        few_alike (keep t (targets (canonical g) k))
        (keep_distinct t _ (keep_distinct (labelled (canonical g)) _
        (heads_distinct k _ canonical_arcs_ascend)))
        (λ n m p q.
        let (at_n, way-n) = ways_back n p in
        let (at-m, way-m) = ways_back m q in
        canonical_carries.apart n m at_n at-m (alike_few _ few (reference_of n) (reference_of m) way-n way-m))

  module _ (few : Narrow g) where
    -- so the canonical graph is narrow
    pub canonical_narrow : Narrow (canonical g)
    canonical_narrow k = (
      ways_few k (side (canonical g) 1 k) (side g 1 (reference_of k))
          (λ m p q. side_carried _ _ (canonical g) g canonical_carries 1 k p m q) (few (reference_of k)).0,
      ways_few k (λ m. not (side (canonical g) 1 k m)) (λ m. not (side g 1 (reference_of k) m))
          (λ m p q. ap not (side_carried _ _ (canonical g) g canonical_carries 1 k p m q))
          (few (reference_of k)).1,
    )

    -- its order is its numbers in order
    pub canonical_order : order (canonical g) ≡ from_on 0 count
    canonical_order =
        map_apart (λ k. k < count) reference_of canonical_carries.apart (order (canonical g))
        (from_on 0 count)
        (λ k e. ltb-true k count (sym (canonical_labelled g k) ∙ order_labelled (canonical g) k e))
        (λ k e. omega (arith, from_on_among 0 count k e))
        (sym (order_carried _ reference_of (canonical g) g canonical_carries canonical_narrow few)
        ∙ sym (map_numbers (order g) (order g) 0 (λ i. ap (λ j. get_or (order g) j 0) (zero-add i))))

    -- so its numbering is the walk's
    pub canonical_walked : walked (canonical g) ≡ true
    unfolding walked
    canonical_walked = rw (canonical_order, canonical_length g) (same_itself (from_on 0 count))

  -- no more labels, arcs and meetings than in the graph
  pub canonical_labels_few : length (canonical g).labels ≤ length g.labels
  canonical_labels_few =
      omega (
        arith,
        canonical_length g,
        sum_each 1 (order g),
        sum_least (λ n. 1) (λ n. tally n g.labels) (order g)
            (λ n e. label_counted n g.labels (order_labelled g n e)),
        labels_load g.labels (order g) (order_distinct g),
      )

  pub canonical_arcs_few : length (canonical g).arcs ≤ length g.arcs
  unfolding canonical
  canonical_arcs_few = rows_few (order g) (order_distinct g) g.arcs

  pub canonical_meetings_few : length (canonical g).meetings ≤ length g.meetings
  unfolding canonical
  canonical_meetings_few = rows_up_few (order g) (order_distinct g) g.meetings

-- a graph whose nodes are in order and walked, and whose arcs and meetings ascend between them, is its own
-- canonical graph
pub canonical_again : (g : Graph) → in_order 0 g.labels ≡ true → walked g ≡ true → ascends g.arcs ≡ true
    → ascends g.meetings ≡ true → every upward g.meetings ≡ true
    → every (ends_below (length g.labels)) g.arcs ≡ true
    → every (ends_below (length g.labels)) g.meetings ≡ true → canonical g ≡ g
unfolding canonical walked
canonical_again g nodes walk arcs meetings up arc_ends meeting_ends =
    let n = length g.labels in
    let is = same_true (order g) (from_on 0 n) walk in
    let labels = numbered_again g.labels 0 g.labels nodes (λ j l. refl) in
    let joined = rows_again n g.arcs arcs arc_ends in
    let met = rows_up_again n g.meetings meetings up meeting_ends in
    rw (is, labels, joined, met)

-- and a graph of the reader's shape
pub shaped_canonical : (ts : List Term) (g : Graph) → shaped ts g ≡ true
    → every (ends_below (length g.labels)) g.arcs ≡ true
    → every (ends_below (length g.labels)) g.meetings ≡ true → canonical g ≡ g
unfolding shaped
shaped_canonical ts g e =
    let (nodes, more) = both (in_order 0 g.labels) _ e in
    let (at_places, more₂) = both (every (Shape.placed ts) g.labels) _ more in
    let (arcs, more₃) = both (ascends g.arcs) _ more₂ in
    let (narrow, more₄) = both (every (branches ts g) g.labels) _ more₃ in
    let (walk, more₅) = both (walked g) _ more₄ in
    let (meetings, more₆) = both (ascends g.meetings) _ more₅ in
    let (up, events) = both (every upward g.meetings) _ more₆ in
    canonical_again g nodes walk arcs meetings up
