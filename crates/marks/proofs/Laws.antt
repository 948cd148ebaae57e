-- What a caller may rely on: a mark fits a word and is never 0, it is read as it was made, and each mark is one of a kind.
-- Assumes nothing.
use Rattle.std.proofs.Common.{◌≡◌, ℕ, ◌+◌, ◌*◌, ◌%◌, ◌<◌, ◌≤◌, Bool, true, false, eqb, ltb, refl, arith}
use Rattle.std.proofs.Common.{ltb-false, ltb-true, le-ltb, lt-ltb, eq-eqb, ne_eqb, eqb-true, le-leb}
use Rattle.std.proofs.lemmas.Bool.{lt-leb, eqb-false}
use Rattle.places.specs.declared.Literal.TheVariants.{Left, Own, Event}
use Rattle.marks.specs.words.Mark.{own_mark, event_mark, term_of, is_own, is_event, literal}

-- marks fit a word, and none is 0, whatever the number is
module _ (t : ℕ) where
  pub own_small : own_mark t < 65536
  unfolding own_mark
  own_small = omega arith

  pub event_small : event_mark t < 65536
  unfolding event_mark
  event_small = omega arith

  pub own_some : own_mark t ≡ 0 → ⊥
  unfolding own_mark
  own_some e = omega arith

  pub event_some : event_mark t ≡ 0 → ⊥
  unfolding event_mark
  event_some e = omega arith

-- the marks of a table's term
module _ (t : ℕ) (h : t < 1024) where
  pub own_is : own_mark t ≡ 2 + 2 * t
  unfolding own_mark
  own_is = omega arith

  pub event_is : event_mark t ≡ 3 + 2 * t
  unfolding event_mark
  event_is = omega arith

-- what the start's mark is read as, and 0
module _ (m : ℕ) (h : m < 2) where
  pub low_read : literal m ≡ Left 0
  unfolding literal
  low_read = simp (lt-ltb m 2 h)

  pub low_tested : (is_own m ≡ false) × (is_event m ≡ false)
  unfolding is_own is_event
  low_tested = simp (lt-leb 2 m h) (refl, refl)

-- what a mark of term t is read as: k is 0 for its own literal's, and 1 for its event's
module _ (m t : ℕ) where
  pub term_is : (k : ℕ) → k ≤ 1 → m ≡ 2 + 2 * t + k → term_of m ≡ t
  unfolding term_of
  term_is k h e = omega arith

  pub own_read : m ≡ 2 + 2 * t → literal m ≡ Own t
  unfolding literal
  own_read e =
      simp (le-ltb m 2 (omega arith), eq-eqb (m % 2) 0 (omega arith), term_is 0 (omega arith) (omega arith))

  pub event_read : m ≡ 3 + 2 * t → literal m ≡ Event t
  unfolding literal
  event_read e =
      simp (le-ltb m 2 (omega arith), ne_eqb (m % 2) 0 (λ q. omega arith), term_is 1 (omega arith) (omega arith))

  pub own_tested : m ≡ 2 + 2 * t → (is_own m ≡ true) × (is_event m ≡ false)
  unfolding is_own is_event
  own_tested e =
      simp (le-leb 2 m (omega arith), eq-eqb (m % 2) 0 (omega arith), ne_eqb (m % 2) 1 (λ q. omega arith)) (refl, refl)

  pub event_tested : m ≡ 3 + 2 * t → (is_own m ≡ false) × (is_event m ≡ true)
  unfolding is_own is_event
  event_tested e =
      simp (le-leb 2 m (omega arith), ne_eqb (m % 2) 0 (λ q. omega arith), eq-eqb (m % 2) 1 (omega arith)) (refl, refl)

-- which mark a number is
pub data Read (m : ℕ) : Type 0 where
  unmarked : m ≡ 0 → Read m
  at_start : m ≡ 1 → Read m
  at_own : (t : ℕ) → m ≡ 2 + 2 * t → Read m
  at_event : (t : ℕ) → m ≡ 3 + 2 * t → Read m

pub read : (m : ℕ) → Read m
unfolding term_of
read m = go (ltb m 2) (eqb (m % 2) 0) refl refl
  where
    low : (b : Bool) → eqb m 0 ≡ b → m < 2 → Read m
    low true e h = unmarked (eqb-true m 0 e)
    low false e h = let q = eqb-false m 0 e in at_start (omega arith)

    go : (a b : Bool) → ltb m 2 ≡ a → eqb (m % 2) 0 ≡ b → Read m
    go true b e f = low (eqb m 0) refl (ltb-true m 2 e)
    go false true e f =
        let h = ltb-false m 2 e in
        let even = eqb-true (m % 2) 0 f in
        at_own (term_of m) (omega arith)
    go false false e f =
        let h = ltb-false m 2 e in
        let odd = eqb-false (m % 2) 0 f in
        at_event (term_of m) (omega arith)
