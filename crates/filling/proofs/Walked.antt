-- The preorder walk, a turn at a time. Assumes nothing.
use Rattle.std.proofs.Common.{◌≡◌, refl, ℕ, zero, suc, ◌+◌, ◌-◌, ◌≤◌, ◌<◌, List, get_or, set, add-one}
use Rattle.std.proofs.Common.{arith}
use Rattle.kinds.specs.Kind.{subterms}
use Rattle.filling.specs.words.Preorder.{past, walked}

-- behind no term, one, or two
module _ (j : ℕ) (xs : List ℕ) where
  pub past_none : (n : ℕ) → n ≡ 0 → j ≡ past n j xs
  unfolding past
  past_none n e = rw e

  pub past_one : (n : ℕ) → n ≡ 1 → get_or xs j 0 ≡ past n j xs
  unfolding past
  past_one n e = rw e

  pub past_two : (n : ℕ) → n ≡ 2 → get_or xs (get_or xs j 0) 0 ≡ past n j xs
  unfolding past
  past_two n e = rw e

-- a turn: of term number i - 1, behind which number i stands
pub walked_turn : (i : ℕ) (ks xs : List ℕ) (n v : ℕ) → 0 < i → n ≡ subterms (get_or ks (i - 1) 0)
    → v ≡ past n (i - 1 + 1) xs
    → walked i ks xs ≡ walked (i - 1) ks (set xs (i - 1) v)
unfolding walked
walked_turn zero ks xs n v h e q = absurd (omega arith)
walked_turn (suc m) ks xs n v h e q =
    let p : suc m - 1 ≡ m = omega arith in
    rw (q, e, p, add-one m)

pub walked_end : (i : ℕ) (ks xs : List ℕ) → i ≤ 0 → walked i ks xs ≡ xs
unfolding walked
walked_end zero ks xs h = refl
walked_end (suc i) ks xs h = absurd (omega arith)
