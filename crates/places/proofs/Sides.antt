-- A term's numbers side by side: number 0 is the term itself, and any other stands in one of its sides, which
-- has a digit and a first number. What a side says of numbers, paths and literals is read off the
-- definitions. Assumes nothing.
use Rattle.std.proofs.Common.{◌≡◌, ℕ, zero, suc, ◌+◌, ◌-◌, ◌<◌, ◌≤◌, Bool, true, false, ltb, List, [], ◌∷◌}
use Rattle.std.proofs.Common.{refl, arith, ltb-false, ltb-true, le-ltb, lt-ltb}
use Rattle.std.proofs.Math.Option.{some}
use Rattle.lines.specs.Line.{choose}
use Rattle.terms.specs.Term.{Operator, Term, leaf, prefix, binary, size, Shallow}
use Rattle.places.specs.Place.{path_in, term_at, IsPrefix, PrefixAt, own, shifted, literal_at}

-- a side of a term: its digit, and the number that its own number 0 has in the term
pub data Side : Term → ℕ → ℕ → Term → Type 0 where
  only : (e : ℕ) (t : Term) → Side (prefix e t) 2 1 t
  first : (o : Operator) (t u : Term) → Side (binary o t u) 1 1 t
  second : (o : Operator) (t u : Term) → Side (binary o t u) 2 (1 + size t) u

-- numbers inside a term: the term itself, and inwards by its sides
module _ (P : Term → ℕ → Type 0) (itself : (t : Term) → P t 0)
    (inward : (T t : Term) (x k n : ℕ) → Side T x k t → n < size t → P t n → P T (k + n)) where
  pub by_number : (t : Term) (n : ℕ) → n < size t → P t n
  unfolding size
  by_number (leaf l) n h = let z : n ≡ 0 = omega arith in rw z (itself (leaf l))
  by_number (prefix e t) zero h = itself (prefix e t)
  by_number (prefix e t) (suc n) h =
      let m : suc n ≡ 1 + n = omega arith in
      rw m (inward _ t 2 1 n (only e t) (omega arith) (by_number t n (omega arith)))
  by_number (binary o t u) zero h = itself (binary o t u)
  by_number (binary o t u) (suc n) h = go (ltb n (size t)) refl (by_number t n) (by_number u (n - size t))
    where
      go : (b : Bool) → ltb n (size t) ≡ b → (n < size t → P t n)
          → (n - size t < size u → P u (n - size t)) → P (binary o t u) (suc n)
      go true e left right =
          let i : n < size t = ltb-true n (size t) e in
          let m : suc n ≡ 1 + n = omega arith in
          rw m (inward _ t 1 1 n (first o t u) i (left i))
      go false e left right =
          let i : size t ≤ n = ltb-false n (size t) e in
          let m : suc n ≡ 1 + size t + (n - size t) = omega arith in
          rw m (inward _ u 2 (1 + size t) (n - size t) (second o t u) (omega arith) (right (omega arith)))

one_more : (n : ℕ) → 1 + n ≡ suc n
one_more n = omega arith

-- what a side says of the term's numbers
pub side_first : {T t : Term} {x k : ℕ} → Side T x k t → 0 < k
side_first (only e t) = omega arith
side_first (first o t u) = omega arith
side_first (second o t u) = omega arith

pub side_inside : {T t : Term} {x k : ℕ} → Side T x k t → k + size t ≤ size T
unfolding size
side_inside (only e t) = omega arith
side_inside (first o t u) = omega arith
side_inside (second o t u) = omega arith

pub side_at : {T t : Term} {x k : ℕ} (n : ℕ) → Side T x k t → n < size t
    → (path_in T (k + n) ≡ x ∷ path_in t n) × (term_at T (k + n) ≡ term_at t n)
unfolding path_in term_at
side_at n (only e t) h = rw (one_more n) (refl, refl)
side_at n (first o t u) h = rw (one_more n) (simp (lt-ltb n (size t) h) (refl, refl))
side_at n (second o t u) h =
    let m : 1 + size t + n ≡ suc (size t + n) = omega arith in
    let b : size t + n - size t ≡ n = omega arith in
    rw m (simp (le-ltb (size t + n) (size t) (omega arith), b) (refl, refl))

pub side_literal : {T t : Term} {x k : ℕ} (w : List ℕ) → Side T x k t
    → literal_at T (x ∷ w) ≡ shifted k (literal_at t w)
unfolding literal_at
side_literal w (only e t) = refl
side_literal w (first o t u) = refl
side_literal w (second o t u) = refl

pub side_shallow : {T t : Term} {x k : ℕ} (d : ℕ) → Side T x k t → Shallow d T → Shallow (d + 1) t
side_shallow d (only e t) h = h.1
side_shallow d (first o t u) h = h.1.0
side_shallow d (second o t u) h = h.1.1

-- number 0
pub path_root : (t : Term) → path_in t 0 ≡ []
unfolding path_in
path_root (leaf l) = refl
path_root (prefix e t) = refl
path_root (binary o t u) = refl

pub term_root : (t : Term) → term_at t 0 ≡ t
unfolding term_at
term_root (leaf l) = refl
term_root (prefix e t) = refl
term_root (binary o t u) = refl

pub literal_root : (t : Term) → literal_at t [] ≡ some (own 0)
unfolding literal_at
literal_root (leaf l) = refl
literal_root (prefix e t) = refl
literal_root (binary o t u) = refl

-- a number that is a prefix's is one of the term's
pub prefix_inside : (t : Term) (n : ℕ) → PrefixAt t n → n < size t
unfolding term_at size
prefix_inside (leaf l) n p = absurd p
prefix_inside (prefix e t) zero p = omega arith
prefix_inside (prefix e t) (suc n) p = let h = prefix_inside t n p in omega arith
prefix_inside (binary o t u) zero p = absurd p
prefix_inside (binary o t u) (suc n) p =
    go (ltb n (size t)) refl p (prefix_inside t n) (prefix_inside u (n - size t))
  where
    go : (b : Bool) → ltb n (size t) ≡ b → IsPrefix (choose b (term_at t n) (term_at u (n - size t)))
        → (PrefixAt t n → n < size t) → (PrefixAt u (n - size t) → n - size t < size u)
        → suc n < suc (size t + size u)
    go true e p left right = let h = left p in omega arith
    go false e p left right = let h = right p in omega (arith, ltb-false n (size t) e)
