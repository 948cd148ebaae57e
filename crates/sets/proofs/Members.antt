-- A set of events by its members: its number is below 2 to the power e exactly when each of its events is below
-- e. A bit from e on needs a number that large, and such a number has its highest bit there. Over any width.
-- Assumes nothing.
use Rattle.std.proofs.Common.{ℕ, zero, suc, ◌+◌, ◌*◌, ◌/◌, ◌%◌, ◌^◌, ◌≤◌, ◌<◌, ◌≡◌, refl, ap, Bool, true}
use Rattle.std.proofs.Common.{false, ◌↔◌, arith, add-zero, add-suc, pow_mono, leb, eqb-true, eq-eqb}
use Rattle.std.proofs.Common.{leb-true, leb-false}
use Rattle.std.proofs.Math.Nat.{div-eq_of_lt, div-eq_of_lt-le, two-pow-succ}
use Rattle.sets.specs.EventSet.{member}

-- a bit that is set is below the width
member_below : (x e k : ℕ) → x < 2 ^ e → member k x ≡ true → k < e
unfolding member
member_below x e k h m = go (leb e k) refl
  where
    go : (b : Bool) → leb e k ≡ b → k < e
    go false q = leb-false e k q
    go true q =
        let large : 2 ^ e ≤ 2 ^ k = pow_mono (leb-true e k q) in
        let none_of : x / 2 ^ k ≡ 0 = div-eq_of_lt (omega arith) in
        let set : x / 2 ^ k % 2 ≡ 1 = eqb-true (x / 2 ^ k % 2) 1 m in
        absurd (omega arith)

twice : (n : ℕ) → 2 ^ suc n ≡ 2 * 2 ^ n
twice n = omega (arith, two-pow-succ n)

-- a number's highest bit is set
highest : (x n : ℕ) → 2 ^ n ≤ x → x < 2 ^ suc n → member n x ≡ true
unfolding member
highest x n l u =
    let double = twice n in
    let one_of : x / 2 ^ n ≡ 1 = div-eq_of_lt-le (2 ^ n) (omega arith) (omega arith) in
    eq-eqb (x / 2 ^ n % 2) 1 (omega arith)

-- a number from 2 to the power e on has a bit from e on; d bounds how far on
large_bit : (d x e : ℕ) → x < 2 ^ (e + d) → 2 ^ e ≤ x → (k : ℕ) × (e ≤ k) × (member k x ≡ true)
large_bit zero x e u l = absurd (omega (arith, ap (λ (n : ℕ). 2 ^ n) (add-zero e)))
large_bit (suc d) x e u l = go (leb (2 ^ (e + d)) x) refl (λ v. large_bit d x e v l)
  where
    longer : x < 2 ^ suc (e + d)
    longer = rw (add-suc e d) at u

    go : (b : Bool) → leb (2 ^ (e + d)) x ≡ b → (x < 2 ^ (e + d) → (k : ℕ) × (e ≤ k) × (member k x ≡ true))
        → (k : ℕ) × (e ≤ k) × (member k x ≡ true)
    go true q below = (e + d, omega arith, highest x (e + d) (leb-true (2 ^ (e + d)) x q) longer)
    go false q below = below (leb-false (2 ^ (e + d)) x q)

-- a number is below 2 to its own power
self_below : (n : ℕ) → n < 2 ^ n
self_below zero = omega arith
self_below (suc n) = let r = self_below n in let double = twice n in omega arith

below_members : (x e : ℕ) → ((k : ℕ) → member k x ≡ true → k < e) → x < 2 ^ e
below_members x e h = go (leb (2 ^ e) x) refl
  where
    go : (b : Bool) → leb (2 ^ e) x ≡ b → x < 2 ^ e
    go false q = leb-false (2 ^ e) x q
    go true q =
        let wide : 2 ^ x ≤ 2 ^ (e + x) = pow_mono (omega arith) in
        let bit = large_bit x x e (omega (arith, self_below x)) (leb-true (2 ^ e) x q) in
        absurd (omega (arith, h bit.0 bit.2))

-- every bit of a set is one of e events exactly when its number is below 2 to the power e
pub set_within : (x e : ℕ) → (x < 2 ^ e) ↔ ((k : ℕ) → member k x ≡ true → k < e)
set_within x e = (λ h k m. member_below x e k h m, below_members x e)
