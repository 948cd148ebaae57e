-- The canonical graph of a run's track has the reader's shape and is within what a saved graph's numbers are.
-- Each rule is a law of the run's track at the references of the numbers: number 0 is reference 0's, a number's
-- places and ways on are those of its reference, and numbers meet where their references do. Assumes nothing.
use Rattle.std.proofs.Common.{ℕ, suc, ◌≤◌, ◌<◌, ◌≡◌, refl, sym, ap, ◌∙◌, Bool, true, false, ◌&&◌, ◌||◌, List}
use Rattle.std.proofs.Common.{[], ◌∷◌, ⊎_elim, arith, length, leb, ltb, eqb, eqb-true, eq-eqb, ne_eqb, lt-ltb}
use Rattle.std.proofs.Common.{ltb-true, le-leb, leb-true}
use Rattle.std.proofs.Math.Option.{some}
use Rattle.std.proofs.Math.ListN.{get_elem?}
use Rattle.lines.specs.Line.{choose}
use Rattle.lines.proofs.Digits.{both}
use Rattle.terms.specs.Term.{Term, Shallow}
use Rattle.places.specs.Place.{Place}
use Rattle.rules.specs.Track.{Label, lookup}
use Rattle.rules.specs.Run.{State, Reached}
use Rattle.graphs.specs.Graph.{Graph, graph_of, present, targets, side, meets}
use Rattle.graphs.specs.Walk.{among, order}
use Rattle.graphs.specs.Saved.{canonical}
use Rattle.graphs.specs.Shape.{every, in_order, placed, splits, one_on, branches, joins_events, shaped}
use Rattle.graphs.proofs.Walking.{among_first, among_rest, among_cases, among_none}
use Rattle.graphs.proofs.Ordered.{among_keep}
use Rattle.graphs.proofs.References.{element_there}
use Rattle.graphs.proofs.Pairs.{agree, every_joined}
use Rattle.graphs.proofs.Rows.{tested, tested_inside}
use Rattle.graphs.proofs.Renaming.{side_carried}
use Rattle.graphs.proofs.Canonical.{reference_of, canonical_length, canonical_labelled}
use Rattle.graphs.proofs.Canonical.{canonical_meetings, canonical_in_order, canonical_carries}
use Rattle.graphs.proofs.Canonical.{ways_back, ways_few, canonical_arcs_ascend}
use Rattle.graphs.proofs.Canonical.{canonical_meetings_ascend, canonical_upward, canonical_arcs_below}
use Rattle.graphs.proofs.Canonical.{canonical_meetings_below, canonical_walked, canonical_labels_few}
use Rattle.graphs.proofs.Canonical.{canonical_arcs_few, canonical_meetings_few}
use Rattle.graphs.proofs.Counted.{keep_all}
use Rattle.graphs.proofs.Tracked.{labels_placed, run_branches, run_narrow, run_meetings, run_ranged}
use Rattle.graphs.proofs.Tracked.{run_rooms}
use Rattle.graphs.proofs.Spelled.{Each, each_none, each_first, Fits}

-- a test that each passes every one passes, and the other way round
pub each_every : {A : Type 0} (t : A → Bool) {xs : List A} → Each (λ x. t x ≡ true) xs → every t xs ≡ true
unfolding every
each_every t each_none = refl
each_every t (each_first h more) = rw h (each_every t more)

pub every_each : {A : Type 0} (t : A → Bool) (xs : List A) → every t xs ≡ true → Each (λ x. t x ≡ true) xs
unfolding every
every_each t [] e = each_none
every_each t (x ∷ xs) e = let (first, rest) = both (t x) _ e in each_first first (every_each t xs rest)

-- a test that every one passes who is among them
among_every : (t : ℕ → Bool) (xs : List ℕ) → ((n : ℕ) → among n xs ≡ true → t n ≡ true) → every t xs ≡ true
unfolding every
among_every t [] h = refl
among_every t (x ∷ xs) h = rw (h x (among_first x xs)) (among_every t xs (λ n e. h n (among_rest n x xs e)))

every_among : (t : ℕ → Bool) (xs : List ℕ) → every t xs ≡ true → (n : ℕ) → among n xs ≡ true → t n ≡ true
unfolding every
every_among t [] e n i = absurd (among_none n i)
every_among t (x ∷ xs) e n i =
    let (first, rest) = both (t x) _ e in
    ⊎_elim (λ is. ap t is ∙ first) (every_among t xs rest n) (among_cases n x xs i)

-- what holds of each number with its place holds of each of the labels in number order
in_order_each : (P : Label → Type 0) (k : ℕ) (ls : List Label) → in_order k ls ≡ true
    → ((j : ℕ) (w : Place) → k ≤ j → lookup j ls ≡ some w → P (record { reference = j; place = w })) → Each P ls
unfolding in_order lookup
in_order_each P k [] e h = each_none
in_order_each P k (l ∷ ls) e h =
    let (here, rest) = both (eqb l.reference k) _ e in
    let is = eqb-true l.reference k here in
    each_first
    (h l.reference l.place (omega arith) (rw (eq-eqb l.reference l.reference refl)))
    (in_order_each P (suc k) ls rest (λ j w m found.
    h j w (omega arith) (rw (ne_eqb j l.reference (λ same. omega arith)) found)))

-- so what holds of each number with its reference's place holds of each label of the canonical graph
canonical_each : (P : Label → Type 0) (g : Graph) → ((k : ℕ) (w : Place) → k < length (order g)
    → lookup (reference_of g k) g.labels ≡ some w → P (record { reference = k; place = w }))
    → Each P (canonical g).labels
unfolding present
canonical_each P g h =
    in_order_each P 0 (canonical g).labels (canonical_in_order g) (λ k w m found.
    let inside = ltb-true k (length (order g)) (sym (canonical_labelled g k) ∙ ap present found) in
    h k w inside ((canonical_carries g).places k inside ∙ found))

-- what a number's ways on are where its reference's are
module _ (ts : List Term) (g : Graph) (k : ℕ) (inside : k < length (order g)) (w : Place) where
  -- the reference of a number
  abbrev r : ℕ → ℕ
  r = reference_of g

  -- the reference's sides are the number's
  number_side : (x m : ℕ) → k < length (order g) → m < length (order g)
      → side g x (r k) (r m) ≡ side (canonical g) x k m
  number_side x m p q = side_carried _ r (canonical g) g (canonical_carries g) x k p m q

  -- at most one on a side
  one_side : (x : ℕ) → one_on ts g x (r k) ≡ true → one_on ts (canonical g) x k ≡ true
  one_side x e =
      le-leb _ 1 (ways_few g k (side (canonical g) x k) (side g x (r k)) (number_side x) (leb-true _ 1 e))

  -- at most one in all
  one_way : leb (length (targets g (r k))) 1 ≡ true → leb (length (targets (canonical g) k)) 1 ≡ true
  one_way e =
      le-leb (length (targets (canonical g) k)) 1 (omega (
        arith,
        keep_all (targets (canonical g) k),
        ways_few g k (λ m. true) (λ m. true) (λ m p q. refl)
            (omega (arith, keep_all (targets g (r k)), leb-true (length (targets g (r k))) 1 e)),
      ))

  -- each on one of the sides
  abbrev either_side : Graph → ℕ → ℕ → Bool
  either_side h n m = side h 1 n m || side h 2 n m

  each_side : every (either_side g (r k)) (targets g (r k)) ≡ true
      → every (either_side (canonical g) k) (targets (canonical g) k) ≡ true
  each_side e =
      among_every _ (targets (canonical g) k) (λ m i.
      let (at-m, there) = ways_back g k (λ m. true) (λ m. true) (λ m p q. refl) m
      (among_keep (λ m. true) m (targets (canonical g) k) ∙ i) in
      sym (rw (number_side 1 m inside at-m, number_side 2 m inside at-m))
      ∙ every_among (either_side g (r k)) (targets g (r k)) e (r m)
      (sym (among_keep (λ m. true) (r m) (targets g (r k))) ∙ there))

  -- so a number branches as its place allows where its reference does
  number_branches : branches ts g (record { reference = r k; place = w }) ≡ true
      → branches ts (canonical g) (record { reference = k; place = w }) ≡ true
  unfolding branches
  number_branches e = go (splits ts w) e
    where
      go : (b : Bool)
          → choose b (every (either_side g (r k)) (targets g (r k)) && (one_on ts g 1 (r k) && one_on ts g 2 (r k)))
          (leb (length (targets g (r k))) 1) ≡ true
          → choose b (every (either_side (canonical g) k) (targets (canonical g) k)
          && (one_on ts (canonical g) 1 k && one_on ts (canonical g) 2 k))
          (leb (length (targets (canonical g) k)) 1) ≡ true
      go true e =
          let (each, ones) = both (every (either_side g (r k)) (targets g (r k))) _ e in
          let (first, second) = both (one_on ts g 1 (r k)) _ ones in
          rw (each_side each, one_side 1 first, one_side 2 second)
      go false e = one_way e

module _ (ts : List Term) {s : State} (p : Reached ts s) where
  -- the run's track, and the order of its references
  abbrev g : Graph
  g = graph_of s

  abbrev o : List ℕ
  o = order g

  -- number 0 is reference 0's, and no other is
  number_first : (k : ℕ) → k < length o → eqb k 0 ≡ eqb (reference_of g k) 0
  number_first k inside =
      let some_there : 0 < length o = omega arith in
      let zero_is = ((canonical_carries g).first (canonical_labelled g 0 ∙ lt-ltb 0 (length o) some_there)).1 in
      agree (eqb k 0) (eqb (reference_of g k) 0)
      (λ e. eq-eqb _ 0 (ap (reference_of g) (eqb-true k 0 e) ∙ zero_is))
      (λ e. eq-eqb k 0 ((canonical_carries g).apart k 0 inside some_there
      (eqb-true (reference_of g k) 0 e ∙ sym zero_is)))

  -- a number is placed as the reader wants it, and so is each label
  number_placed : (k : ℕ) (w : Place) → k < length o → lookup (reference_of g k) s.labels ≡ some w
      → placed ts (record { reference = k; place = w }) ≡ true
  unfolding placed
  number_placed k w inside e = rw (number_first k inside) (labels_placed ts p (reference_of g k) w e)

  numbers_placed : every (placed ts) (canonical g).labels ≡ true
  numbers_placed = each_every (placed ts) (canonical_each _ g number_placed)

  -- each branches as its place allows
  numbers_branch : every (branches ts (canonical g)) (canonical g).labels ≡ true
  numbers_branch =
      each_every (branches ts (canonical g)) (canonical_each _ g (λ k w inside e.
      number_branches ts g k inside w (run_branches ts p (reference_of g k) w e)))

  -- meetings join event nodes of one event
  numbers_meet : every (joins_events ts (canonical g)) (canonical g).meetings ≡ true
  unfolding joins_events tested
  numbers_meet = every_joined _ (canonical g).meetings (λ i j e.
      let (less, met) = both (ltb i j) _ (sym (canonical_meetings g i j) ∙ e) in
      let (at_i, at_j) = tested_inside (meets s.meetings) o i j met in
      let meet : meets s.meetings (reference_of g i) (reference_of g j) ≡ true =
      rw (element_there o i at_i, element_there o j at_j) at met in
      rw (← (canonical_carries g).places i at_i, ← (canonical_carries g).places j at_j)
      (run_meetings ts p (reference_of g i) (reference_of g j) meet).1)

  -- a run's canonical graph has the reader's shape
  pub run_shaped : shaped ts (canonical g) ≡ true
  unfolding shaped
  run_shaped =
      rw (
        canonical_in_order g,
        numbers_placed,
        canonical_arcs_ascend g,
        numbers_branch,
        canonical_walked g (run_narrow ts p),
        canonical_meetings_ascend g,
        canonical_upward g,
        numbers_meet,
      )

  -- and its numbers are within what a saved graph's are
  pub run_fits : ((k : ℕ) (t : Term) → get_elem? ts k ≡ some t → Shallow 0 t) → 0 < length ts → length ts ≤ 256
      → Fits (length ts) (canonical g)
  run_fits shallow some_Is_first few =
      let rooms = run_rooms ts p in
      record {
        definitions_fit = few;
        labels_room = omega (arith, rooms.0, canonical_labels_few g);
        arcs_room = omega (arith, rooms.1, canonical_arcs_few g);
        meetings_room = omega (arith, rooms.2, canonical_meetings_few g);
        labels_fit = canonical_each _ g (λ k w inside e.
            let (place, path) = run_ranged ts p shallow some_Is_first (reference_of g k) w e in
            record {
              reference_fits = omega (arith, rooms.0, canonical_labels_few g, canonical_length g);
              place_fits = place;
              path_fits = path;
            });
        arcs_fit = every_each _ _ (canonical_arcs_below g);
        meetings_fit = every_each _ _ (canonical_meetings_below g);
      }
