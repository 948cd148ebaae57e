-- Linking arcs one by one keeps the words of sides: the word of a side of a marked reference is 0 where no arc so far
-- leads there, and one more than where the only such arc leads. An arc finds its side free exactly where it is the
-- first one there, so all arcs fit exactly where no side has two and each arc has a side. Assumes nothing.
use Rattle.std.proofs.Common.{ℕ, suc, ◌+◌, ◌*◌, ◌%◌, ◌≤◌, ◌<◌, ◌≡◌, refl, sym, ap, ap₂, ◌∙◌, Bool, true}
use Rattle.std.proofs.Common.{false, ◌&&◌, ◌||◌, not, List, [], ◌∷◌, ◌++◌, append-nil, append_assoc, arith}
use Rattle.std.proofs.Common.{length, set, replicate, length-append, length-set, get_or-set_same}
use Rattle.std.proofs.Common.{get_or-set_other, ltb, eqb, eqb-true, eq-eqb, ne_eqb, ltb-true, ltb-false}
use Rattle.std.proofs.lemmas.Bool.{eqb-false, not-true}
use Rattle.std.proofs.lemmas.List.{length-replicate, get_or-replicate}
use Rattle.lines.specs.Line.{choose}
use Rattle.lines.proofs.Digits.{both}
use Rattle.columns.specs.words.Columns.{look}
use Rattle.columns.proofs.Laws.{look_in, look_out}
use Rattle.control.specs.words.Words.{reference_room}
use Rattle.rules.specs.Track.{Pair}
use Rattle.graphs.specs.Walk.{among}
use Rattle.graphs.proofs.Walking.{Within}
use Rattle.links.specs.words.Columns.{put, at}
use Rattle.links.specs.code.Linked.{side_words, slot, bare, arc_slot, free, with_arc, linked, all_fit}
use Rattle.links.proofs.WordLaws.{put_in}
use Rattle.links.proofs.LinkLaws.{slot_most}

-- how many arcs may lead to a side: none to slot 0, which is no side
unfoldable pub room : ℕ → ℕ
room x = choose (eqb x 0) 0 1

-- a slot that is a side has room for one
room_some : (x : ℕ) → (x ≡ 0 → ⊥) → room x ≡ 1
unfolding room
room_some x h = rw (ne_eqb x 0 h)

pub room_most : (x : ℕ) → room x ≤ 1
unfolding room
room_most x = go (eqb x 0)
  where
    go : (b : Bool) → choose b 0 1 ≤ 1
    go true = omega arith
    go false = omega arith

some_room : (x : ℕ) → 1 ≤ room x → (x ≡ 0 → ⊥)
unfolding room
some_room x h e = let none_there : 1 ≤ 0 = rw e at h in omega arith

-- the word of a side by where the arcs to it lead
unfoldable pub word_of : List ℕ → ℕ
word_of [] = 0
word_of (m ∷ ms) = suc m

-- a word of 0 tells that none leads there
word_none : (ms : List ℕ) → word_of ms ≡ 0 → ms ≡ []
unfolding word_of
word_none [] e = refl
word_none (m ∷ ms) e = absurd (omega arith)

none_there : (ms : List ℕ) → length ms ≤ 0 → ms ≡ []
none_there [] h = refl
none_there (m ∷ ms) h = absurd (omega arith)

module _ (ms ks xs : List ℕ) where
  -- a reference has a mark
  unfoldable pub marked : ℕ → Bool
  marked n = not (eqb (at ms n) 0)

  -- an arc leads from n to its side x, at a marked reference
  unfoldable pub reaches : ℕ → ℕ → Pair → Bool
  reaches n x a = eqb n a.from && (marked a.to && eqb (slot ks xs (at ms n) (at ms a.to)) x)

  -- where the arcs from n to its side x lead
  unfoldable pub led : ℕ → ℕ → List Pair → List ℕ
  led n x [] = []
  led n x (a ∷ as') = choose (reaches n x a) (a.to ∷ led n x as') (led n x as')

  -- no side has two arcs, and each arc has a side
  abbrev pub Fits : List Pair → Type 0
  Fits as' = (n x : ℕ) → marked n ≡ true → x ≤ 2 → length (led n x as') ≤ room x

  -- words of sides that tell where arcs lead
  pub record Links (w : List ℕ) (as' : List Pair) : Type 0 where
    pub long : length w ≡ side_words
    pub words : (n x : ℕ) → marked n ≡ true → 1 ≤ x → x ≤ 2 → look side_words w (2 * n + x) ≡ word_of (led n x as')

  -- a reference with a mark is in range
  pub marked_inside : (n : ℕ) → marked n ≡ true → n < reference_room
  unfolding marked
  marked_inside n h = go (ltb n reference_room) refl
    where
      go : (b : Bool) → ltb n reference_room ≡ b → n < reference_room
      go true e = ltb-true n reference_room e
      go false e =
          let out = look_out reference_room ms n (ltb-false n reference_room e) in
          let no : not (eqb 0 0) ≡ true = rw (← out) at h in
          let z : ◌≡◌ {A = ℕ} 0 1 = cc in absurd (omega arith)

  -- arcs lead to marked references
  pub led_marked : (n x : ℕ) (as' : List Pair) → Within (λ m. marked m ≡ true) (led n x as')
  unfolding led reaches among
  led_marked n x [] m i = let z : ◌≡◌ {A = ℕ} 0 1 = cc in absurd (omega arith)
  led_marked n x (a ∷ as') m i = go (reaches n x a) refl i (led_marked n x as' m)
    where
      go : (b : Bool) → reaches n x a ≡ b → among m (choose b (a.to ∷ led n x as') (led n x as')) ≡ true
          → (among m (led n x as') ≡ true → marked m ≡ true) → marked m ≡ true
      go true e i further = here (eqb m a.to) refl i
        where
          here : (c : Bool) → eqb m a.to ≡ c → (c || among m (led n x as')) ≡ true → marked m ≡ true
          here true q i =
              let leads = (both (eqb n a.from) _ e).1 in
              ap marked (eqb-true m a.to q) ∙ (both (marked a.to) _ leads).0
          here false q i = further i
      go false e i further = further i

  -- of arcs in a row
  led_append : (n x : ℕ) (as' bs : List Pair) → led n x (as' ++ bs) ≡ led n x as' ++ led n x bs
  unfolding led
  led_append n x [] bs = refl
  led_append n x (a ∷ as') bs = go (reaches n x a) (led_append n x as' bs)
    where
      go : (b : Bool) → led n x (as' ++ bs) ≡ led n x as' ++ led n x bs
          → choose b (a.to ∷ led n x (as' ++ bs)) (led n x (as' ++ bs))
          ≡ choose b (a.to ∷ led n x as') (led n x as') ++ led n x bs
      go true h = ap (λ l. a.to ∷ l) h
      go false h = h

  -- one arc
  module _ (a : Pair) where
    -- whose ends have marks, or not both
    arc_marked : bare ms ks xs a ≡ false → (marked a.from ≡ true) × (marked a.to ≡ true)
    unfolding bare marked
    arc_marked h = go (eqb (at ms a.from) 0) (eqb (at ms a.to) 0) h
      where
        go : (b c : Bool) → (b || c) ≡ false → (not b ≡ true) × (not c ≡ true)
        go true c e = let z : ◌≡◌ {A = ℕ} 0 1 = cc in absurd (omega arith)
        go false true e = let z : ◌≡◌ {A = ℕ} 0 1 = cc in absurd (omega arith)
        go false false e = (refl, refl)

    -- leads to no side where not both have marks
    bare_reaches : (n x : ℕ) → marked n ≡ true → bare ms ks xs a ≡ true → reaches n x a ≡ false
    unfolding bare marked reaches
    bare_reaches n x h e = go (eqb n a.from) refl
      where
        ends : (b c d : Bool) → not b ≡ true → (b || c) ≡ true → (not c && d) ≡ false
        ends true c d p q = let z : ◌≡◌ {A = ℕ} 0 1 = cc in absurd (omega arith)
        ends false true d p q = refl
        ends false false d p q = let z : ◌≡◌ {A = ℕ} 0 1 = cc in absurd (omega arith)

        go : (b : Bool) → eqb n a.from ≡ b
            → (b && (not (eqb (at ms a.to) 0) && eqb (slot ks xs (at ms n) (at ms a.to)) x)) ≡ false
        go true q =
            let from : not (eqb (at ms a.from) 0) ≡ true = rw (eqb-true n a.from q) at h in
            ends (eqb (at ms a.from) 0) (eqb (at ms a.to) 0) _ from e
        go false q = refl

    -- the side that it leads to, and no other
    reaches_own : bare ms ks xs a ≡ false → reaches a.from (arc_slot ms ks xs a) a ≡ true
    unfolding reaches
    reaches_own h = rw (eq-eqb a.from a.from refl, (arc_marked h).1, eq-eqb (arc_slot ms ks xs a) _ refl)

    reaches_only : (n x : ℕ) → reaches n x a ≡ true → (n ≡ a.from) × (x ≡ arc_slot ms ks xs a)
    unfolding reaches
    reaches_only n x h =
        let (start, rest) = both (eqb n a.from) _ h in
        let is = eqb-true n a.from start in
        (is, sym (rw is at (eqb-true _ x (both (marked a.to) _ rest).1)))

    -- where arcs lead with it behind them
    led_same : (n x : ℕ) (as' : List Pair) → reaches n x a ≡ false → led n x (as' ++ (a ∷ [])) ≡ led n x as'
    unfolding led
    led_same n x as' h = led_append n x as' (a ∷ []) ∙ rw (h, append-nil (led n x as'))

    led_more : (n x : ℕ) (as' : List Pair) → reaches n x a ≡ true
        → led n x (as' ++ (a ∷ [])) ≡ led n x as' ++ (a.to ∷ [])
    unfolding led
    led_more n x as' h = led_append n x as' (a ∷ []) ∙ rw h

    -- that finds its side free
    module _ (w : List ℕ) (done : List Pair) (l : Links w done) where
      free_side : bare ms ks xs a ≡ false → free ms ks xs w a ≡ true
          → (arc_slot ms ks xs a ≡ 0 → ⊥) × (led a.from (arc_slot ms ks xs a) done ≡ [])
      unfolding free
      free_side h f =
          let (sided, unused) = both (not (eqb (arc_slot ms ks xs a) 0)) _ f in
          let some_side = eqb-false (arc_slot ms ks xs a) 0 (not-true _ sided) in
          let most = slot_most ks xs (at ms a.from) (at ms a.to) _ refl in
          let word = l.words a.from (arc_slot ms ks xs a) (arc_marked h).0 (omega arith) most in
          (some_side, word_none _ (sym word ∙ eqb-true _ 0 unused))

      -- is told of by the words that it is put into
      put_links : bare ms ks xs a ≡ false → free ms ks xs w a ≡ true
          → Links (put side_words w (2 * a.from + arc_slot ms ks xs a) (suc a.to)) (done ++ (a ∷ []))
      unfolding word_of
      put_links h f =
          let to_in = marked_inside a.to (arc_marked h).1 in
          let small : suc a.to % 65536 ≡ suc a.to = omega arith in
          rw (← put_in side_words w i (suc a.to) inside, small) (record {
            long = length-set w i (suc a.to) ∙ l.long;
            words = λ n x marked_n least most. by_arc n x marked_n least most (reaches n x a) refl;
          })
        where
          y : ℕ
          y = arc_slot ms ks xs a

          i : ℕ
          i = 2 * a.from + y

          inside : i < side_words
          inside =
              let from_in = marked_inside a.from (arc_marked h).0 in
              omega (arith, slot_most ks xs (at ms a.from) (at ms a.to) _ refl)

          apart : (n x : ℕ) → 1 ≤ x → x ≤ 2 → reaches n x a ≡ false → 2 * n + x ≡ i → ⊥
          apart n x least most e same =
              let y_most : y ≤ 2 = slot_most ks xs (at ms a.from) (at ms a.to) _ refl in
              let y_some : y ≡ 0 → ⊥ = (free_side h f).0 in
              let (start, side) : (n ≡ a.from) × (x ≡ y) = (omega arith, omega arith) in
              let reached = ap₂ (λ k z. reaches k z a) start side ∙ reaches_own h in
              let z : ◌≡◌ {A = ℕ} 0 1 = cc in omega arith

          by_arc : (n x : ℕ) → marked n ≡ true → 1 ≤ x → x ≤ 2 → (b : Bool) → reaches n x a ≡ b
              → look side_words (set w i (suc a.to)) (2 * n + x) ≡ word_of (led n x (done ++ (a ∷ [])))
          by_arc n x marked_n least most true e =
              let (start, side) = reaches_only n x e in
              rw (led_more n x done e, start, side, (free_side h f).1)
              (sym (look_in side_words _ i inside)
              ∙ get_or-set_same w i (suc a.to) 0 (omega (arith, l.long, inside)))
          by_arc n x marked_n least most false e =
              let there : 2 * n + x < side_words = omega (arith, marked_inside n marked_n) in
              rw (led_same n x done e)
              (sym (look_in side_words _ (2 * n + x) there)
              ∙ get_or-set_other w i (2 * n + x) (suc a.to) 0 (apart n x least most e)
              ∙ look_in side_words w (2 * n + x) there ∙ l.words n x marked_n least most)

      -- the words with an arc that may be linked tell of it too
      arc_links : (bare ms ks xs a || free ms ks xs w a) ≡ true → Links (with_arc ms ks xs w a) (done ++ (a ∷ []))
      unfolding with_arc
      arc_links h = go (bare ms ks xs a) (free ms ks xs w a) refl refl h
        where
          go : (b c : Bool) → bare ms ks xs a ≡ b → free ms ks xs w a ≡ c → (b || c) ≡ true
              → Links (choose b w (choose c (put side_words w (2 * a.from + arc_slot ms ks xs a) (suc a.to)) w))
              (done ++ (a ∷ []))
          go true c e f h = record {
            long = l.long;
            words = λ n x marked_n least most.
                l.words n x marked_n least most
                ∙ ap word_of (sym (led_same n x done (bare_reaches n x marked_n e)));
          }
          go false true e f h = put_links e f
          go false false e f h = let z : ◌≡◌ {A = ℕ} 0 1 = cc in absurd (omega arith)

      -- and it is the only one on its side
      arc_fits : Fits done → (bare ms ks xs a || free ms ks xs w a) ≡ true → Fits (done ++ (a ∷ []))
      arc_fits fits h n x marked_n most = go (bare ms ks xs a) (reaches n x a) refl refl h
        where
          go : (b c : Bool) → bare ms ks xs a ≡ b → reaches n x a ≡ c → (b || free ms ks xs w a) ≡ true
              → length (led n x (done ++ (a ∷ []))) ≤ room x
          go true c e r f =
              rw (led_same n x done (bare_reaches n x marked_n e)) (fits n x marked_n most)
          go false false e r f = rw (led_same n x done r) (fits n x marked_n most)
          go false true e r f =
              let (start, side) = reaches_only n x r in
              let (some_side, unused) = free_side e f in
              let none_so_far = ap₂ (λ k z. led k z done) start side ∙ unused in
              rw (led_more n x done r, none_so_far) (omega (arith, room_some x (λ z. some_side (sym side ∙ z))))

      -- an arc of arcs that fit may be linked
      fits_arc : (as' : List Pair) → Fits (done ++ (a ∷ as')) → (bare ms ks xs a || free ms ks xs w a) ≡ true
      unfolding free led word_of
      fits_arc as' fits = go (bare ms ks xs a) refl
        where
          y : ℕ
          y = arc_slot ms ks xs a

          go : (b : Bool) → bare ms ks xs a ≡ b → (b || free ms ks xs w a) ≡ true
          go true e = refl
          go false e =
              let from = (arc_marked e).0 in
              let most = slot_most ks xs (at ms a.from) (at ms a.to) _ refl in
              let few = rw (led_append a.from y done (a ∷ as'), reaches_own e) at (fits a.from y from most) in
              let parts = length-append (led a.from y done) (a.to ∷ led a.from y as') in
              let some_side = some_room y (omega arith) in
              let unused : led a.from y done ≡ [] = none_there _ (omega (arith, room_most y)) in
              let word = l.words a.from y from (omega arith) most ∙ ap word_of unused in
              rw (ne_eqb y 0 some_side, word)

  -- arcs that can be linked fit, and their words tell of them
  linked_fits : (as' done : List Pair) (w : List ℕ) → Links w done → Fits done → all_fit ms ks xs w as' ≡ true
      → Fits (done ++ as') × Links (linked ms ks xs w as') (done ++ as')
  unfolding all_fit linked
  linked_fits [] done w l fits h = rw (append-nil done) (fits, l)
  linked_fits (a ∷ as') done w l fits h =
      let (may, more) = both (bare ms ks xs a || free ms ks xs w a) _ h in
      let next : Links (with_arc ms ks xs w a) (done ++ (a ∷ [])) = arc_links a w done l may in
      let fit = arc_fits a w done l fits may in
      rw append_assoc at (linked_fits as' (done ++ (a ∷ [])) (with_arc ms ks xs w a) next fit more)

  -- arcs that fit can be linked
  fits_linked : (as' done : List Pair) (w : List ℕ) → Links w done → Fits (done ++ as')
      → all_fit ms ks xs w as' ≡ true
  unfolding all_fit
  fits_linked [] done w l fits = refl
  fits_linked (a ∷ as') done w l fits =
      let may = fits_arc a w done l as' fits in
      let next : Links (with_arc ms ks xs w a) (done ++ (a ∷ [])) = arc_links a w done l may in
      rw may (fits_linked as' (done ++ (a ∷ [])) (with_arc ms ks xs w a) next (rw append_assoc fits))

  -- words of zeros tell of no arc
  no_links : Links (replicate side_words 0) []
  unfolding led word_of
  no_links = record {
    long = length-replicate {A = ℕ} side_words 0;
    words = λ n x marked_n least most.
        let there : 2 * n + x < side_words = omega (arith, marked_inside n marked_n) in
        sym (look_in side_words _ (2 * n + x) there) ∙ get_or-replicate {A = ℕ} side_words (2 * n + x) 0 0 there;
  }

  module _ (as' : List Pair) where
    -- where all arcs can be linked, they fit, and the words of sides tell where they lead
    pub all_fit_links : all_fit ms ks xs (replicate side_words 0) as' ≡ true
        → Fits as' × Links (linked ms ks xs (replicate side_words 0) as') as'
    unfolding led
    all_fit_links = linked_fits as' [] (replicate side_words 0) no_links (λ n x marked_n most. omega arith)

    -- and where they fit, all can be linked
    pub fits_all_fit : Fits as' → all_fit ms ks xs (replicate side_words 0) as' ≡ true
    fits_all_fit = fits_linked as' [] (replicate side_words 0) no_links
