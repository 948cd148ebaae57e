-- Pairs by the numbers of their ends. What a pair becomes goes behind what those in front of it became, so
-- the words are put one pair at a time; where no number passes a bound, neither does an end. Assumes nothing.
use Rattle.std.proofs.Common.{ℕ, zero, suc, ◌+◌, ◌*◌, ◌-◌, ◌≤◌, ◌<◌, ◌≡◌, refl, sym, ap, ◌∙◌, Bool, true, false, ◌&&◌, List}
use Rattle.std.proofs.Common.{[], ◌∷◌, ◌++◌, append_assoc, append-nil, ◌⊎◌, inl, inr, length, set, length-append, arith}
use Rattle.std.proofs.Common.{add-zero, add-one, ltb, lt-ltb, le-ltb}
use Rattle.std.proofs.lemmas.List.Edits.{sets}
use Rattle.std.proofs.Math.Bool.{and-false}
use Rattle.lines.specs.Line.{choose}
use Rattle.rules.specs.Track.{Pair, pair}
use Rattle.control.specs.words.Words.{track_word}
use Rattle.control.specs.words.Views.{pairs}
use Rattle.graphs.specs.Parsed.{ends_below}
use Rattle.graphs.specs.Shape.{every}
use Rattle.links.specs.words.Columns.{at, flat}
use Rattle.pairing.specs.code.Renumbered.{renumbered_one, renumbered}
use Rattle.links.proofs.Listed.{pair_at, pairs_more, flat_append, flat_length}
use Rattle.sorting.proofs.Keys.{every_append}

-- some words and those behind them
sets_append : (w : List ℕ) (b : ℕ) (xs ys : List ℕ) → sets w b (xs ++ ys) ≡ sets (sets w b xs) (b + length xs) ys
sets_append w b [] ys = rw (add-zero b)
sets_append w b (x ∷ xs) ys =
    let next : suc b + length xs ≡ b + suc (length xs) = omega arith in
    sets_append (set w b x) (suc b) xs ys ∙ ap (λ (n : ℕ). sets (sets (set w b x) (suc b) xs) n ys) next

-- a pair of numbers, by what the tests found
module _ (either : Bool) (first second there kept : ℕ) (w : List ℕ) where
  abbrev Keeps : ℕ → List ℕ → Type 0
  Keeps n v =
      (n ≡ kept + length (renumbered_one either first second))
      × (v ≡ sets w there (flat (renumbered_one either first second)))

  pub no_first : first ≡ 0 → Keeps kept w
  unfolding renumbered_one flat
  no_first e = rw e (omega arith, refl)

  pub no_second : second ≡ 0 → Keeps kept w
  unfolding renumbered_one flat
  no_second e = rw e (go first)
    where
      go : (f : ℕ) → (kept ≡ kept + length (renumbered_one either f 0))
          × (w ≡ sets w there (flat (renumbered_one either f 0)))
      go zero = (omega arith, refl)
      go (suc f) = (omega arith, refl)

-- both ends have numbers: they are put turned or not, by the test
module _ (either : Bool) (there kept : ℕ) (w : List ℕ) where
  both_kept : (first second : ℕ) → (first ≡ 0 → ⊥) → (second ≡ 0 → ⊥) → (t : Bool)
      → either && ltb (second - 1) (first - 1) ≡ t
      → (kept + 1 ≡ kept + length (renumbered_one either first second))
      × (set (set w there (choose t (second - 1) (first - 1))) (there + 1) (choose t (first - 1) (second - 1))
      ≡ sets w there (flat (renumbered_one either first second)))
  unfolding renumbered_one flat
  both_kept zero second p q t e = absurd (p refl)
  both_kept (suc f) zero p q t e = absurd (q refl)
  both_kept (suc f) (suc s) p q t e =
      let one : suc f - 1 ≡ f = omega arith in
      let two : suc s - 1 ≡ s = omega arith in
      let test = rw (one, two) at e in
      rw (one, two, test, add-one there) (go t)
    where
      go : (t : Bool) → (kept + 1 ≡ kept + 1)
          × (set (set w there (choose t s f)) (suc there) (choose t f s)
          ≡ sets w there (flat (choose t (pair s f) (pair f s) ∷ [])))
      go true = (refl, refl)
      go false = (refl, refl)

  module _ (first second : ℕ) (p : first ≡ 0 → ⊥) (q : second ≡ 0 → ⊥) where
    pub both_turned : either ≡ true → second < first
        → (kept + 1 ≡ kept + length (renumbered_one either first second))
        × (set (set w there (second - 1)) (there + 1) (first - 1)
        ≡ sets w there (flat (renumbered_one either first second)))
    both_turned e h =
        both_kept first second p q true (rw e (lt-ltb (second - 1) (first - 1) (omega arith)))

    pub both_straight : (either ≡ false) ⊎ (first ≤ second)
        → (kept + 1 ≡ kept + length (renumbered_one either first second))
        × (set (set w there (first - 1)) (there + 1) (second - 1)
        ≡ sets w there (flat (renumbered_one either first second)))
    both_straight (inl e) = both_kept first second p q false (rw e)
    both_straight (inr l) =
        both_kept first second p q false
        (rw (le-ltb (second - 1) (first - 1) (omega arith)) (and-false either))

-- what two lists become, one behind the other
renumbered_append : (either : Bool) (ns : List ℕ) (as' bs : List Pair)
    → renumbered either ns (as' ++ bs) ≡ renumbered either ns as' ++ renumbered either ns bs
unfolding renumbered
renumbered_append either ns [] bs = refl
renumbered_append either ns (a ∷ as') bs =
    rw (renumbered_append either ns as' bs)
    (sym (append_assoc (renumbered_one either (at ns a.from) (at ns a.to)) _ _))

-- one pair more
module _ (either : Bool) (ns : List ℕ) (done : List Pair) (a : Pair) where
  abbrev its : List Pair
  its = renumbered_one either (at ns a.from) (at ns a.to)

  renumbered_more : renumbered either ns (done ++ (a ∷ [])) ≡ renumbered either ns done ++ its
  unfolding renumbered
  renumbered_more = renumbered_append either ns done (a ∷ []) ∙ rw (append-nil its)

  count_more : (kept n : ℕ) → kept ≡ length (renumbered either ns done) → n ≡ kept + length its
      → n ≡ length (renumbered either ns (done ++ (a ∷ [])))
  count_more kept n k e = rw renumbered_more (omega (arith, length-append (renumbered either ns done) its))

  words_more : (base kept : ℕ) (w₀ w v : List ℕ) → kept ≡ length (renumbered either ns done)
      → w ≡ sets w₀ base (flat (renumbered either ns done)) → v ≡ sets w (base + 2 * kept) (flat its)
      → v ≡ sets w₀ base (flat (renumbered either ns (done ++ (a ∷ []))))
  words_more base kept w₀ w v k e f =
      let there : base + 2 * kept ≡ base + length (flat (renumbered either ns done)) =
      omega (arith, flat_length (renumbered either ns done)) in
      f
      ∙ rw (renumbered_more, flat_append (renumbered either ns done) its, e, there)
      (sym (sets_append w₀ base (flat (renumbered either ns done)) (flat its)))

-- a turn: pair i is read from its words, and its numbers from theirs
module _ (either : Bool) (ns : List ℕ) (base : ℕ) (g : List ℕ) (i a b f s kept : ℕ)
    (a_is : a ≡ track_word g (base + 2 * i)) (b_is : b ≡ track_word g (base + 2 * i + 1)) (f_is : f ≡ at ns a)
    (s_is : s ≡ at ns b) (so_far : kept ≡ length (renumbered either ns (pairs base g 0 i))) where
  read : renumbered_one either f s
      ≡ renumbered_one either (at ns (track_word g (base + 2 * i))) (at ns (track_word g (base + 2 * i + 1)))
  read = rw (f_is, s_is, a_is, b_is)

  pub turn_kept : (w₀ w v : List ℕ) (n : ℕ) → w ≡ sets w₀ base (flat (renumbered either ns (pairs base g 0 i)))
      → (n ≡ kept + length (renumbered_one either f s))
      × (v ≡ sets w (base + 2 * kept) (flat (renumbered_one either f s)))
      → (n ≡ length (renumbered either ns (pairs base g 0 (i + 1))))
      × (v ≡ sets w₀ base (flat (renumbered either ns (pairs base g 0 (i + 1)))))
  turn_kept w₀ w v n there (counts, words) =
      rw (pairs_more base g i) (
        count_more either ns (pairs base g 0 i) (pair_at base g i) kept n so_far (rw read at counts),
        words_more either ns (pairs base g 0 i) (pair_at base g i) base kept w₀ w v so_far there
            (rw read at words),
      )

-- a pair becomes at most one
pub one_at_most : (either : Bool) (f s : ℕ) → length (renumbered_one either f s) ≤ 1
unfolding renumbered_one
one_at_most either zero s = omega arith
one_at_most either (suc f) zero = omega arith
one_at_most either (suc f) (suc s) = omega arith

pub renumbered_length : (either : Bool) (ns : List ℕ) (ps : List Pair)
    → length (renumbered either ns ps) ≤ length ps
unfolding renumbered
renumbered_length either ns [] = omega arith
renumbered_length either ns (a ∷ ps) =
    omega (
      arith,
      length-append (renumbered_one either (at ns a.from) (at ns a.to)) (renumbered either ns ps),
      one_at_most either (at ns a.from) (at ns a.to),
      renumbered_length either ns ps,
    )

-- where no number passes n, the ends are below it
one_below : (n : ℕ) (either : Bool) (f s : ℕ) → f ≤ n → s ≤ n
    → every (ends_below n) (renumbered_one either f s) ≡ true
unfolding renumbered_one every ends_below
one_below n either zero s p q = refl
one_below n either (suc f) zero p q = refl
one_below n either (suc f) (suc s) p q = go (either && ltb s f)
  where
    go : (t : Bool) → every (ends_below n) (choose t (pair s f) (pair f s) ∷ []) ≡ true
    go true = rw (lt-ltb s n (omega arith), lt-ltb f n (omega arith))
    go false = rw (lt-ltb f n (omega arith), lt-ltb s n (omega arith))

pub renumbered_below : (n : ℕ) (either : Bool) (ns : List ℕ) → ((i : ℕ) → at ns i ≤ n) → (ps : List Pair)
    → every (ends_below n) (renumbered either ns ps) ≡ true
unfolding renumbered every
renumbered_below n either ns few [] = refl
renumbered_below n either ns few (a ∷ ps) =
    every_append (ends_below n) (renumbered_one either (at ns a.from) (at ns a.to)) _
    ∙ rw (
      one_below n either (at ns a.from) (at ns a.to) (few a.from) (few a.to),
      renumbered_below n either ns few ps,
    )
