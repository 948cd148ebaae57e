-- Linking and walking a graph in columns is linking and walking the graph that its marks tell. The arcs from a reference
-- to its side x lead to those of its labelled targets that have slot x, and slots are the sides of places; so all arcs
-- fit exactly where no node branches but as its place may, the words of sides then tell the ways on, and the walk over
-- them is the graph's. Assumes nothing.
use Rattle.std.proofs.Common.{ℕ, zero, suc, ◌+◌, ◌*◌, ◌≤◌, ◌<◌, ◌≡◌, refl, sym, ap, ap₂, ◌∙◌, Bool, true}
use Rattle.std.proofs.Common.{false, ◌&&◌, ◌||◌, not, List, [], ◌∷◌, ◌++◌, arith, length, replicate, leb, eqb}
use Rattle.std.proofs.Common.{leb-true, le-leb, lt-ltb}
use Rattle.std.proofs.lemmas.Bool.{lt-leb}
use mathlib.Core.List.{Memᴰ}
use Rattle.std.proofs.Math.Option.{Option, none, some}
use Rattle.lines.specs.Line.{choose}
use Rattle.lines.specs.Judging.{accepted}
use Rattle.lines.proofs.Digits.{both}
use Rattle.tables.specs.Table.{Sofar, judged}
use Rattle.tables.specs.words.Columns.{kinds, afters}
use Rattle.terms.specs.Term.{definitions_of}
use Rattle.places.specs.Place.{Place}
use Rattle.columns.specs.words.Columns.{look}
use Rattle.control.specs.words.Words.{reference_room}
use Rattle.rules.specs.Track.{Label, Pair, lookup}
use Rattle.rules.proofs.Marked.{tally}
use Rattle.graphs.specs.Graph.{Graph, present, labelled, keep, heads, targets, on_side, side, next, joins}
use Rattle.graphs.specs.Walk.{among, walk, order}
use Rattle.graphs.specs.Shape.{every, branches}
use Rattle.graphs.specs.Shape as Shape
use Rattle.graphs.proofs.Walking.{Within, among_first, within_rest, within_none, walk_alike}
use Rattle.graphs.proofs.Ordered.{among_keep, targets_joined, next_targets, order_enough}
use Rattle.graphs.proofs.Pairs.{agree}
use Rattle.graphs.proofs.Counted.{lookup_labelled, labelled_lookup}
use Rattle.links.specs.words.Columns.{at}
use Rattle.links.specs.code.Linked.{side_words, slot, linked, all_fit, target, on}
use Rattle.walks.specs.code.Walked.{first, walked}
use Rattle.walks.proofs.Telling.{Telling, Leads, labelled_told, slot_told}
use Rattle.links.proofs.LinkLaws.{slot_most}
use Rattle.walks.proofs.LinkedWords.{room, room_most, word_of, marked, reaches, led, Fits, Links}
use Rattle.walks.proofs.LinkedWords.{marked_inside, led_marked, all_fit_links, fits_all_fit}

-- tests that agree on some references keep the same of them, and hold of all or not alike
keep_alike : (t u : ℕ → Bool) (ns : List ℕ) → Within (λ m. t m ≡ u m) ns → keep t ns ≡ keep u ns
unfolding keep
keep_alike t u [] h = refl
keep_alike t u (n ∷ ns) h =
    rw (h n (among_first n ns), keep_alike t u ns (within_rest (λ m. t m ≡ u m) n ns h))

every_alike : (t u : ℕ → Bool) (ns : List ℕ) → Within (λ m. t m ≡ u m) ns → every t ns ≡ every u ns
unfolding every
every_alike t u [] h = refl
every_alike t u (n ∷ ns) h =
    rw (h n (among_first n ns), every_alike t u ns (within_rest (λ m. t m ≡ u m) n ns h))

-- all fail a test where none is kept
every_fails : (t : ℕ → Bool) (ns : List ℕ) → every (λ m. not (t m)) ns ≡ leb (length (keep t ns)) 0
unfolding every keep
every_fails t [] = refl
every_fails t (n ∷ ns) = go (t n) (every_fails t ns)
  where
    go : (b : Bool) → every (λ m. not (t m)) ns ≡ leb (length (keep t ns)) 0
        → (not b && every (λ m. not (t m)) ns) ≡ leb (length (choose b (n ∷ keep t ns) (keep t ns))) 0
    go true h = sym (lt-leb (suc (length (keep t ns))) 0 (omega arith))
    go false h = h

-- and then each fails it
keep_fails : (t : ℕ → Bool) (ns : List ℕ) → length (keep t ns) ≤ 0 → Within (λ m. t m ≡ false) ns
unfolding among
keep_fails t ns h m i = go (keep t ns) refl h
  where
    none_kept : (b : Bool) → among m [] ≡ (b && among m ns) → b ≡ false
    none_kept true e = let z : ◌≡◌ {A = ℕ} 0 1 = cc in absurd (omega arith)
    none_kept false e = refl

    go : (ks : List ℕ) → keep t ns ≡ ks → length ks ≤ 0 → t m ≡ false
    go [] e h = none_kept (t m) (ap (among m) (sym e) ∙ among_keep t m ns)
    go (k ∷ ks) e h = absurd (omega arith)

-- where all pass all are kept, and where none passes none
keep_whole : (ns : List ℕ) → keep (λ m. true) ns ≡ ns
unfolding keep
keep_whole [] = refl
keep_whole (n ∷ ns) = ap (λ l. n ∷ l) (keep_whole ns)

keep_nothing : (ns : List ℕ) → keep (λ m. false) ns ≡ []
unfolding keep
keep_nothing [] = refl
keep_nothing (n ∷ ns) = keep_nothing ns

-- at most one reference, parted by a test
parted_few : (t : ℕ → Bool) (ns : List ℕ) → length ns ≤ 1 → keep t ns ++ keep (λ m. not (t m)) ns ≡ ns
unfolding keep
parted_few t [] h = refl
parted_few t (n ∷ []) h = go (t n)
  where
    go : (b : Bool) → choose b (n ∷ []) [] ++ choose (not b) (n ∷ []) [] ≡ n ∷ []
    go true = refl
    go false = refl
parted_few t (n ∷ m ∷ ns) h = absurd (omega arith)

-- a slot by which one it is
some_slot : (x : ℕ) → x ≤ 2 → (eqb x 1 || eqb x 2) ≡ not (eqb x 0)
some_slot zero h = refl
some_slot (suc zero) h = refl
some_slot (suc (suc zero)) h = refl
some_slot (suc (suc (suc x))) h = absurd (omega arith)

other_slot : (x : ℕ) → x ≤ 2 → eqb x 0 ≡ false → not (eqb x 1) ≡ eqb x 2
other_slot zero h e = e
other_slot (suc zero) h e = refl
other_slot (suc (suc zero)) h e = refl
other_slot (suc (suc (suc x))) h e = absurd (omega arith)

-- where a word of a side leads
target_word : (ns : List ℕ) → length ns ≤ 1 → Within (λ m. m < reference_room) ns → target (word_of ns) ≡ ns
unfolding target word_of
target_word [] h inside = refl
target_word (n ∷ []) h inside = rw (lt-ltb n reference_room (inside n (among_first n [])))
target_word (n ∷ m ∷ ns) h inside = absurd (omega arith)

-- what holds of each that a list has holds of every one
pub every_member : (t : Label → Bool) (ls : List Label) → ((l : Label) → Memᴰ l ls → t l ≡ true)
    → every t ls ≡ true
unfolding every
every_member t [] h = refl
every_member t (l ∷ ls) h =
    rw (h l (Memᴰ.head refl)) (every_member t ls (λ m i. h m (Memᴰ.tail i)))

member_every : (t : Label → Bool) {l : Label} {ls : List Label} → Memᴰ l ls → every t ls ≡ true → t l ≡ true
unfolding every
member_every t (Memᴰ.head {x = m} {xs = ls} e) h = ap t e ∙ (both (t m) (every t ls) h).0
member_every t (Memᴰ.tail {x = m} {xs = ls} i) h = member_every t i (both (t m) (every t ls) h).1

-- marks that tell a graph over a checked table
module _ (text : List ℕ) (s : Sofar) (q : judged text ≡ accepted s) (ms : List ℕ) (g : Graph)
    (tells : Telling s ms g) where
  -- the slot of an arc between two references
  abbrev slot_of : ℕ → ℕ → ℕ
  slot_of n m = slot (kinds s) (afters s) (at ms n) (at ms m)

  abbrev led_to : ℕ → ℕ → List ℕ
  led_to n x = led ms (kinds s) (afters s) n x g.arcs

  -- the marked references are the labelled ones, each with its place
  marked_is : (n : ℕ) → marked ms (kinds s) (afters s) n ≡ labelled g n
  unfolding marked
  marked_is n = sym (labelled_told text s q ms g tells n)

  label_of : (n : ℕ) → labelled g n ≡ true → (w : Place) × (lookup n g.labels ≡ some w)
  unfolding present
  label_of n h = go (lookup n g.labels) refl h
    where
      go : (o : Option Place) → lookup n g.labels ≡ o → present o ≡ true
          → (w : Place) × (lookup n g.labels ≡ some w)
      go none e h = let z : ◌≡◌ {A = ℕ} 0 1 = cc in absurd (omega arith)
      go (some w) e h = (w, e)

  -- a node's targets are labelled
  targets_labelled : (n : ℕ) → Within (λ m. labelled g m ≡ true) (targets g n)
  targets_labelled n m i = (both (labelled g m) (joins g.arcs n m) (sym (targets_joined g n m) ∙ i)).0

  -- arcs lead to those of a node's targets that have the slot
  led_targets : (n x : ℕ) (as' : List Pair)
      → led ms (kinds s) (afters s) n x as' ≡ keep (λ m. eqb (slot_of n m) x) (keep (labelled g) (heads n as'))
  unfolding led reaches keep heads
  led_targets n x [] = refl
  led_targets n x (a ∷ as') =
      go (eqb n a.from) (labelled g a.to) (eqb (slot_of n a.to) x) refl refl (led_targets n x as')
    where
      t : ℕ → Bool
      t m = eqb (slot_of n m) x

      go : (b c d : Bool) → labelled g a.to ≡ c → t a.to ≡ d
          → led ms (kinds s) (afters s) n x as' ≡ keep t (keep (labelled g) (heads n as'))
          → choose (b && (marked ms (kinds s) (afters s) a.to && t a.to))
          (a.to ∷ led ms (kinds s) (afters s) n x as') (led ms (kinds s) (afters s) n x as')
          ≡ keep t (keep (labelled g) (choose b (a.to ∷ heads n as') (heads n as')))
      go true true true e f h = rw (marked_is a.to, e, f) (ap (λ l. a.to ∷ l) h)
      go true true false e f h = rw (marked_is a.to, e, f) h
      go true false d e f h = rw (marked_is a.to, e) h
      go false c d e f h = h

  -- what may lead to the sides of a node
  abbrev fits_at : ℕ → Bool
  fits_at n =
      leb (length (led_to n 0)) 0 && (leb (length (led_to n 1)) 1 && leb (length (led_to n 2)) 1)

  -- told by the room of each slot
  fits_lengths : (n : ℕ) → fits_at n ≡ true → (x : ℕ) → x ≤ 2 → length (led_to n x) ≤ room x
  unfolding room
  fits_lengths n h zero l = leb-true _ 0 (both (leb (length (led_to n 0)) 0) _ h).0
  fits_lengths n h (suc zero) l =
      leb-true _ 1 (both (leb (length (led_to n 1)) 1) _ (both (leb (length (led_to n 0)) 0) _ h).1).0
  fits_lengths n h (suc (suc zero)) l =
      leb-true _ 1 (both (leb (length (led_to n 1)) 1) _ (both (leb (length (led_to n 0)) 0) _ h).1).1
  fits_lengths n h (suc (suc (suc x))) l = absurd (omega arith)

  lengths_fit : (n : ℕ) → ((x : ℕ) → x ≤ 2 → length (led_to n x) ≤ room x) → fits_at n ≡ true
  unfolding room
  lengths_fit n h =
      rw (
        le-leb (length (led_to n 0)) 0 (h 0 (omega arith)),
        le-leb (length (led_to n 1)) 1 (h 1 (omega arith)),
        le-leb (length (led_to n 2)) 1 (h 2 (omega arith)),
      )

  -- a labelled node
  module _ (n : ℕ) (w : Place) (e : lookup n g.labels ≡ some w) where
    -- by where its targets stand
    leads_on : (m : ℕ) → among m (targets g n) ≡ true
        → (v : Place) × (lookup m g.labels ≡ some v) × Leads (definitions_of s) w v (slot_of n m)
    leads_on m i =
        let (v, f) = label_of m (targets_labelled n m i) in
        (v, f, slot_told text s q ms g tells n m w v e f)

    -- that splits has its targets by the sides that they are on
    module _ (h : Shape.splits (definitions_of s) w ≡ true) (x : ℕ) (least : 1 ≤ x) (most : x ≤ 2) where
      on_its_side : Within (λ m. side g x n m ≡ eqb (slot_of n m) x) (targets g n)
      unfolding on_side
      on_its_side m i = let (v, f, leads) = leads_on m i in rw (e, f) (sym (leads.sided h x least most))

      led_side : led_to n x ≡ keep (side g x n) (targets g n)
      led_side =
          led_targets n x g.arcs
          ∙ sym (keep_alike (side g x n) (λ m. eqb (slot_of n m) x) (targets g n) on_its_side)

    -- and any other has all its targets on the second
    led_whole : Shape.splits (definitions_of s) w ≡ false → (x : ℕ) → led_to n x ≡ choose (eqb 2 x) (targets g n) []
    led_whole h x = led_targets n x g.arcs ∙ go (eqb 2 x) refl
      where
        slot_is : (b : Bool) → eqb 2 x ≡ b → Within (λ m. eqb (slot_of n m) x ≡ b) (targets g n)
        slot_is b f m i = rw ((leads_on m i).2.whole h) f

        go : (b : Bool) → eqb 2 x ≡ b
            → keep (λ m. eqb (slot_of n m) x) (targets g n) ≡ choose b (targets g n) []
        go true f = keep_alike _ (λ m. true) (targets g n) (slot_is true f) ∙ keep_whole (targets g n)
        go false f = keep_alike _ (λ m. false) (targets g n) (slot_is false f) ∙ keep_nothing (targets g n)

    -- a node branches as it may where its arcs fit
    branches_told : branches (definitions_of s) g (record { reference = n; place = w }) ≡ fits_at n
    unfolding branches
    branches_told = go (Shape.splits (definitions_of s) w) refl
      where
        either_side : Shape.splits (definitions_of s) w ≡ true
            → every (λ m. side g 1 n m || side g 2 n m) (targets g n) ≡ leb (length (led_to n 0)) 0
        either_side h =
            every_alike _ (λ m. not (eqb (slot_of n m) 0)) (targets g n) (λ m i.
            ap₂ (λ a b. a || b) (on_its_side h 1 (omega arith) (omega arith) m i)
            (on_its_side h 2 (omega arith) (omega arith) m i)
            ∙ some_slot (slot_of n m) (slot_most (kinds s) (afters s) _ _ _ refl))
            ∙ every_fails (λ m. eqb (slot_of n m) 0) (targets g n)
            ∙ ap (λ l. leb (length l) 0) (sym (led_targets n 0 g.arcs))

        go : (b : Bool) → Shape.splits (definitions_of s) w ≡ b
            → choose b
            (every (λ m. side g 1 n m || side g 2 n m) (targets g n)
            && (leb (length (keep (side g 1 n) (targets g n))) 1 && leb (length (keep (side g 2 n) (targets g n))) 1))
            (leb (length (targets g n)) 1) ≡ fits_at n
        go true h =
            rw (either_side h, led_side h 1 (omega arith) (omega arith), led_side h 2 (omega arith) (omega arith))
        go false h = rw (led_whole h 0, led_whole h 1, led_whole h 2)

    -- and then the walk goes on by its sides
    next_told : fits_at n ≡ true → led_to n 1 ++ led_to n 2 ≡ next g n
    unfolding next room
    next_told fits = go (Shape.splits (definitions_of s) w) refl
      where
        others : Shape.splits (definitions_of s) w ≡ true
            → Within (λ m. eqb (slot_of n m) 2 ≡ not (side g 1 n m)) (targets g n)
        others h m i =
            let none_out = rw (led_targets n 0 g.arcs) at (fits_lengths n fits 0 (omega arith)) in
            sym (ap not (on_its_side h 1 (omega arith) (omega arith) m i)
            ∙ other_slot (slot_of n m) (slot_most (kinds s) (afters s) _ _ _ refl)
            (keep_fails _ (targets g n) none_out m i))

        go : (b : Bool) → Shape.splits (definitions_of s) w ≡ b
            → led_to n 1 ++ led_to n 2
            ≡ keep (side g 1 n) (targets g n) ++ keep (λ m. not (side g 1 n m)) (targets g n)
        go true h =
            ap₂ ◌++◌ (led_side h 1 (omega arith) (omega arith))
            (led_targets n 2 g.arcs ∙ keep_alike _ (λ m. not (side g 1 n m)) (targets g n) (others h))
        go false h =
            let few = rw (led_whole h 2) at (fits_lengths n fits 2 (omega arith)) in
            rw (led_whole h 1, led_whole h 2) (sym (parted_few (side g 1 n) (targets g n) few))

  -- arcs fit where they fit at each labelled node
  fits_each : Fits ms (kinds s) (afters s) g.arcs → (n : ℕ) → labelled g n ≡ true → fits_at n ≡ true
  fits_each fits n h = lengths_fit n (λ x most. fits n x (marked_is n ∙ h) most)

  each_fits : ((n : ℕ) → labelled g n ≡ true → fits_at n ≡ true) → Fits ms (kinds s) (afters s) g.arcs
  each_fits each n x h most = fits_lengths n (each n (sym (marked_is n) ∙ h)) x most

  -- all arcs can be linked exactly where every node branches as it may
  pub all_fit_told : ((n : ℕ) → tally n g.labels ≤ 1)
      → all_fit ms (kinds s) (afters s) (replicate side_words 0) g.arcs
      ≡ every (branches (definitions_of s) g) g.labels
  unfolding present
  all_fit_told once = agree _ _ forth back
    where
      forth : all_fit ms (kinds s) (afters s) (replicate side_words 0) g.arcs ≡ true
          → every (branches (definitions_of s) g) g.labels ≡ true
      forth h =
          let fits = (all_fit_links ms (kinds s) (afters s) g.arcs h).0 in
          every_member (branches (definitions_of s) g) g.labels (λ l i.
          let e = labelled_lookup i (once l.reference) in
          branches_told l.reference l.place e ∙ fits_each fits l.reference (ap present e))

      back : every (branches (definitions_of s) g) g.labels ≡ true
          → all_fit ms (kinds s) (afters s) (replicate side_words 0) g.arcs ≡ true
      back h =
          fits_all_fit ms (kinds s) (afters s) g.arcs (each_fits (λ n is.
          let (w, e) = label_of n is in
          sym (branches_told n w e) ∙ member_every (branches (definitions_of s) g) (lookup_labelled g.labels e) h))

  -- words that tell where arcs lead, of arcs that fit, lead on as in the graph
  links_on : (w : List ℕ) → Fits ms (kinds s) (afters s) g.arcs → Links ms (kinds s) (afters s) w g.arcs
      → (n : ℕ) → labelled g n ≡ true → on w n ≡ next g n
  unfolding on
  links_on w fits links n is =
      let (v, e) = label_of n is in
      ap₂ ◌++◌ (to_side 1 (omega arith) (omega arith)) (to_side 2 (omega arith) (omega arith))
      ∙ next_told n v e (fits_each fits n is)
    where
      to_side : (x : ℕ) → 1 ≤ x → x ≤ 2 → target (look side_words w (2 * n + x)) ≡ led_to n x
      to_side x least most =
          rw (links.words n x (marked_is n ∙ is) least most)
          (target_word (led_to n x) (omega (arith, fits n x (marked_is n ∙ is) most, room_most x))
          (λ m i. marked_inside ms (kinds s) (afters s) m (led_marked ms (kinds s) (afters s) n x g.arcs m i)))

  -- the walk begins as in the graph
  first_told : first ms ≡ keep (labelled g) (0 ∷ [])
  unfolding first keep
  first_told = rw (labelled_told text s q ms g tells 0) (go (eqb (at ms 0) 0))
    where
      go : (b : Bool) → choose {A = List ℕ} b [] (0 ∷ []) ≡ choose (not b) (0 ∷ []) []
      go true = refl
      go false = refl

  -- and stays among labelled references, so it is the graph's where these lead on as in the graph
  walk_told : (w : List ℕ) → ((n : ℕ) → labelled g n ≡ true → on w n ≡ next g n) → length g.arcs ≤ 8192
      → walked ms w ≡ order g
  unfolding walked
  walk_told w same few =
      let begin : List ℕ = keep (labelled g) (0 ∷ []) in
      ap (λ p. walk side_words (on w) p []) first_told
      ∙ walk_alike (λ n. labelled g n ≡ true) (next g) (on w)
      (λ n is m i. targets_labelled n m (sym (next_targets g n m) ∙ i)) (λ n is. sym (same n is)) side_words begin []
      (λ m i. (both (labelled g m) (among m (0 ∷ [])) (sym (among_keep (labelled g) m (0 ∷ [])) ∙ i)).0)
      (within_none (λ n. labelled g n ≡ true))
      ∙ order_enough g side_words (omega arith)

  -- where all arcs can be linked
  module _ (h : all_fit ms (kinds s) (afters s) (replicate side_words 0) g.arcs ≡ true) where
    -- a labelled node leads on as in the graph
    pub on_told : (n : ℕ) → labelled g n ≡ true
        → on (linked ms (kinds s) (afters s) (replicate side_words 0) g.arcs) n ≡ next g n
    on_told n is =
        let (fits, links) = all_fit_links ms (kinds s) (afters s) g.arcs h in
        links_on _ fits links n is

    -- and the walk over the words of sides is the graph's
    pub walked_told : length g.arcs ≤ 8192
        → walked ms (linked ms (kinds s) (afters s) (replicate side_words 0) g.arcs) ≡ order g
    walked_told = walk_told (linked ms (kinds s) (afters s) (replicate side_words 0) g.arcs) on_told
