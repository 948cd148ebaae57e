-- The block swap: what two steps draw in the one order and in the other. From f on, the first a references
-- change places with the next b; all others stay. Swapped back, each is what it was. Assumes nothing.
use Rattle.std.proofs.Common.{ℕ, ◌+◌, ◌-◌, ◌≤◌, ◌<◌, ◌≡◌, refl, sym, ap, ◌∙◌, Bool, true, false, arith, ltb}
use Rattle.std.proofs.Common.{ltb-true, ltb-false, lt-ltb, le-ltb}
use Rattle.lines.specs.Line.{choose}

unfoldable pub block_swap : ℕ → ℕ → ℕ → ℕ → ℕ
block_swap f a b n =
    choose (ltb n f) n (choose (ltb n (f + a)) (b + n) (choose (ltb n (f + a + b)) (n - a) n))

-- where it takes a reference: below the blocks, in the first, in the second, behind them
pub swap_below : (f a b n : ℕ) → n < f → block_swap f a b n ≡ n
unfolding block_swap
swap_below f a b n h = rw (lt-ltb n f h)

pub swap_first : (f a b n : ℕ) → f ≤ n → n < f + a → block_swap f a b n ≡ b + n
unfolding block_swap
swap_first f a b n h l = rw (le-ltb n f h, lt-ltb n (f + a) l)

swap_second : (f a b n : ℕ) → f + a ≤ n → n < f + a + b → block_swap f a b n ≡ n - a
unfolding block_swap
swap_second f a b n h l = rw (le-ltb n f (omega (arith, h)), le-ltb n (f + a) h, lt-ltb n (f + a + b) l)

swap_behind : (f a b n : ℕ) → f + a + b ≤ n → block_swap f a b n ≡ n
unfolding block_swap
swap_behind f a b n h =
    rw (le-ltb n f (omega (arith, h)), le-ltb n (f + a) (omega (arith, h)), le-ltb n (f + a + b) h)

-- and back
pub swap_back : (f a b n : ℕ) → block_swap f b a (block_swap f a b n) ≡ n
swap_back f a b n = go (ltb n f) (ltb n (f + a)) (ltb n (f + a + b)) refl refl refl
  where
    go : (x y z : Bool) → ltb n f ≡ x → ltb n (f + a) ≡ y → ltb n (f + a + b) ≡ z
        → block_swap f b a (block_swap f a b n) ≡ n
    go true y z p q r =
        let l = ltb-true n f p in
        ap (block_swap f b a) (swap_below f a b n l) ∙ swap_below f b a n l
    go false true z p q r =
        let l = ltb-false n f p in
        let h = ltb-true n (f + a) q in
        ap (block_swap f b a) (swap_first f a b n l h)
        ∙ swap_second f b a (b + n) (omega (arith, l)) (omega (arith, h))
        ∙ omega arith
    go false false true p q r =
        let l = ltb-false n (f + a) q in
        let h = ltb-true n (f + a + b) r in
        ap (block_swap f b a) (swap_second f a b n l h)
        ∙ swap_first f b a (n - a) (omega (arith, l)) (omega (arith, l, h))
        ∙ omega (arith, l)
    go false false false p q r =
        let l = ltb-false n (f + a + b) r in
        ap (block_swap f b a) (swap_behind f a b n l) ∙ swap_behind f b a n (omega (arith, l))

-- so it is one-to-one
pub swap_apart : (f a b n m : ℕ) → block_swap f a b n ≡ block_swap f a b m → n ≡ m
swap_apart f a b n m e = sym (swap_back f a b n) ∙ ap (block_swap f b a) e ∙ swap_back f a b m
