-- The reader's rules, as they are tested. A test of numbers from one on, as std's `all` tells it of a range, is a test of what
-- stands at each: of every pair, or of every pair and the one before it. Assumes nothing.
use Rattle.std.proofs.Common.{ℕ, zero, suc, ◌+◌, ◌*◌, ◌-◌, ◌≡◌, refl, sym, ◌∙◌, Bool, true, false, ◌&&◌, ◌||◌, cond, List}
use Rattle.std.proofs.Common.{[], ◌∷◌, Some, Less, Equal, Greater, arith, add-one, ltb, eqb}
use Rattle.std.specs.List.{list_all, range_with_len}
use Rattle.std.specs.Ordering.{nat_cmp, as_partial_cmp, partial_lt, partial_ordering_then, is_lt, is_some_and}
use Rattle.std.proofs.Math.Bool.{and-false}
use Rattle.control.specs.words.Words.{track_word}
use Rattle.rules.specs.Track.{Pair, pair}
use Rattle.control.specs.words.Views.{pairs}
use Rattle.graphs.specs.Shape.{every, before, before_first, ascends, upward, from_on}
use Rattle.links.specs.words.Columns.{at}
use Rattle.shape_rules.specs.code.Tests.{one_event}

-- the rest of some rules may be taken where the first is met
pub and_where : {b c : Bool} (a : Bool) → (a ≡ true → b ≡ c) → a && b ≡ a && c
and_where true h = h refl
and_where false h = refl

-- a test of all numbers from one on
pub every_ranged : (t : ℕ → Bool) (k n : ℕ) → list_all t (range_with_len k n) ≡ every t (from_on k n)
unfolding every from_on
every_ranged t k zero = refl
every_ranged t k (suc n) = rw (add-one k, every_ranged t (suc k) n)

-- two tests of every item are one test
pub every_both : {A : Type 0} (t u : A → Bool) (xs : List A)
    → every (λ x. t x && u x) xs ≡ (every t xs && every u xs)
unfolding every
every_both t u [] = refl
every_both t u (x ∷ xs) = go (t x) (u x) (every_both t u xs)
  where
    go : (a b : Bool) → every (λ x. t x && u x) xs ≡ (every t xs && every u xs)
        → ((a && b) && every (λ x. t x && u x) xs) ≡ ((a && every t xs) && (b && every u xs))
    go true true e = e
    go true false e = sym (and-false (every t xs))
    go false b e = refl

module _ (base : ℕ) (w : List ℕ) where
  -- a pair of those that stand from a word on
  abbrev pub pair_from : ℕ → Pair
  pair_from i = pair (track_word w (base + 2 * i)) (track_word w (base + 2 * i + 1))

  -- a test of every pair
  every_pair : (t : Pair → Bool) (i c : ℕ) → every (λ k. t (pair_from k)) (from_on i c) ≡ every t (pairs base w i c)
  unfolding every from_on pairs
  every_pair t i zero = refl
  every_pair t i (suc c) = rw (every_pair t (suc i) c)

  -- a pair is behind the one before it
  abbrev pub behind_last : ℕ → Bool
  behind_last i = before (pair (track_word w (base + 2 * i - 2)) (track_word w (base + 2 * i - 1))) (pair_from i)

  -- so pairs ascend, from the first on
  ascends_from : (i c : ℕ) → every behind_last (from_on (suc i) c) ≡ ascends (pairs base w i (suc c))
  unfolding every from_on pairs ascends before_first
  ascends_from i zero = refl
  ascends_from i (suc c) =
      let one : base + 2 * suc i - 2 ≡ base + 2 * i = omega arith in
      let two : base + 2 * suc i - 1 ≡ base + 2 * i + 1 = omega arith in
      rw (one, two, ascends_from (suc i) c)

  pub all_ascend : (c : ℕ) → every behind_last (from_on 1 (c - 1)) ≡ ascends (pairs base w 0 c)
  unfolding every from_on pairs ascends
  all_ascend zero = refl
  all_ascend (suc c) = let less : suc c - 1 ≡ c = omega arith in rw less (ascends_from 0 c)

  -- the test of a meeting: it is of one event, where its first number is the lower
  module _ (ps ms : List ℕ) where
    abbrev pub meets_well : Pair → Bool
    meets_well a = ltb a.from a.to && one_event ps (at ms a.from) (at ms a.to)

    pub all_meet : (c : ℕ) → every (λ i. meets_well (pair_from i)) (from_on 0 c)
        ≡ (every upward (pairs base w 0 c) && every (λ a. one_event ps (at ms a.from) (at ms a.to)) (pairs base w 0 c))
    unfolding upward
    all_meet c = every_pair meets_well 0 c ∙ every_both upward _ (pairs base w 0 c)

-- pairs of numbers, as std compares them
pub pair_before : (a b c d : ℕ)
    → partial_lt (λ (x y : ℕ × ℕ). partial_ordering_then (as_partial_cmp nat_cmp x.0 y.0) (as_partial_cmp nat_cmp x.1 y.1)) (a, b) (c, d)
    ≡ before (pair a b) (pair c d)
unfolding before
pair_before a b c d = go (ltb a c) (eqb a c) (ltb b d) (eqb b d)
  where
    go : (l e m f : Bool)
        → is_some_and is_lt (partial_ordering_then (Some (cond l Less (cond e Equal Greater)))
        (Some (cond m Less (cond f Equal Greater)))) ≡ l || (e && m)
    go true e m f = refl
    go false true true f = refl
    go false true false true = refl
    go false true false false = refl
    go false false m f = refl
