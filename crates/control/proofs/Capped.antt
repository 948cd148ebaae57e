-- Counts that stop at 65,535 add up and multiply as what they count does: a count is the lesser of the two, and
-- past the most a sum, and a product with a factor that is not 0, stay there. Assumes nothing.
use Rattle.std.proofs.Common.{ℕ, zero, suc, ◌+◌, ◌*◌, ◌≤◌, ◌<◌, min, ◌≡◌, refl, Bool, true, false, arith}
use Rattle.std.proofs.Common.{mul-le-mul, mul-zero, mul_comm, ltb, ltb-true, ltb-false}
use Rattle.lines.specs.Line.{choose}
use Rattle.control.specs.words.Sums.{capped}

pub capped_least : (n : ℕ) → capped n ≡ min 65535 n
unfolding capped
capped_least n = go (ltb 65535 n) refl
  where
    go : (b : Bool) → ltb 65535 n ≡ b → choose b 65535 n ≡ min 65535 n
    go true e = let h = ltb-true 65535 n e in omega arith
    go false e = let h = ltb-false 65535 n e in omega arith

pub capped_small : (n : ℕ) → n ≤ 65535 → capped n ≡ n
capped_small n h = rw (capped_least n) (omega arith)

pub capped_left : (a b : ℕ) → capped (capped a + b) ≡ capped (a + b)
capped_left a b = rw (capped_least a, capped_least (min 65535 a + b), capped_least (a + b)) (omega arith)

pub capped_right : (a b : ℕ) → capped (a + capped b) ≡ capped (a + b)
capped_right a b = rw (capped_least b, capped_least (a + min 65535 b), capped_least (a + b)) (omega arith)

pub capped_sum : (a b : ℕ) → capped (capped a + capped b) ≡ capped (a + b)
capped_sum a b = rw (capped_left a (capped b)) (capped_right a b)

-- one factor is past the most
capped_past : (a b : ℕ) → 65535 < a → capped (capped a * capped b) ≡ capped (a * b)
capped_past a zero h = rw (capped_small 0 (omega arith), mul-zero a, mul-zero (capped a))
capped_past a (suc b) h =
    let most : 65535 ≤ capped a = rw (capped_least a) (omega arith) in
    let some_count : 1 ≤ capped (suc b) = rw (capped_least (suc b)) (omega arith) in
    let counts : 65535 * 1 ≤ capped a * capped (suc b) = mul-le-mul most some_count in
    let more : 65535 ≤ a = omega arith in
    let some_more : 1 ≤ suc b = omega arith in
    let counted : 65535 * 1 ≤ a * suc b = mul-le-mul more some_more in
    rw (capped_least (capped a * capped (suc b)), capped_least (a * suc b)) (omega (arith, counts, counted))

pub capped_product : (a b : ℕ) → capped (capped a * capped b) ≡ capped (a * b)
capped_product a b = go (ltb 65535 a) (ltb 65535 b) refl refl
  where
    go : (p q : Bool) → ltb 65535 a ≡ p → ltb 65535 b ≡ q → capped (capped a * capped b) ≡ capped (a * b)
    go true q e f = capped_past a b (ltb-true 65535 a e)
    go false true e f = rw (mul_comm (capped a) (capped b), mul_comm a b) (capped_past b a (ltb-true 65535 b f))
    go false false e f =
        rw (capped_small a (ltb-false 65535 a e), capped_small b (ltb-false 65535 b f))
