-- The members of a number by its bits. Bit k + 1 of a number is bit k of its half, so laws of one number go
-- by induction on its bits; an operation that works on each bit apart is, member by member, its table on
-- truth values. Over any width. Assumes nothing.
use Rattle.std.proofs.Common.{ℕ, zero, suc, ◌*◌, ◌/◌, ◌%◌, ◌^◌, ◌≤◌, ◌<◌, ◌≡◌, refl, ap, sym, ◌∙◌, Bool, true}
use Rattle.std.proofs.Common.{false, ◌&&◌, ◌||◌, arith, mod-eq_of_lt, one-mul, one-add, pow_pos, shr-shr}
use Rattle.std.proofs.Common.{bit_and, bit_or, bit_xor, eqb, eqb-true, ne_eqb}
use Rattle.std.proofs.lemmas.Bool.{eqb-false}
use Rattle.std.proofs.Math.Bool.{xor}
use Rattle.std.proofs.Math.Nat.{div-eq_of_lt, two-pow-succ}
use Rattle.std.proofs.Math.Pow.{pow-lt}
use lib.Bits.{and_shr, or_shr, xor_shr, and_mod, or_mod, xor_mod}
use Rattle.std.proofs.Math.Dec.{eqb-zero-suc, eqb-suc-zero, eqb-suc-suc}
use Rattle.lines.specs.Line.{choose}
use Rattle.sets.specs.EventSet.{member}
use Rattle.sets.proofs.Members.{set_within}

-- the lowest bit is the remainder by 2
pub member_lowest : (x : ℕ) → x % 2 ≡ choose (member 0 x) 1 0
unfolding member
member_lowest x = go (member 0 x) refl
  where
    go : (b : Bool) → eqb (x / 1 % 2) 1 ≡ b → x % 2 ≡ choose b 1 0
    go true q = omega (arith, eqb-true (x / 1 % 2) 1 q)
    go false q = omega (arith, eqb-false (x / 1 % 2) 1 q)

-- the bits above it are those of the half
pub member_half : (k x : ℕ) → member (suc k) x ≡ member k (x / 2)
unfolding member
member_half k x = rw (← one-add k, ← shr-shr x 1 k)

-- 0 has no bit
pub none_in_zero : (k : ℕ) → member k 0 ≡ false
unfolding member
none_in_zero k = simp (div-eq_of_lt (pow_pos k))

-- a number below 2 to the power e has no bit from e on
pub none_past : (x e k : ℕ) → x < 2 ^ e → e ≤ k → member k x ≡ false
none_past x e k h l = go (member k x) refl
  where
    go : (b : Bool) → member k x ≡ b → member k x ≡ false
    go false q = q
    go true q = let below = (set_within x e).0 h k q in absurd (omega arith)

-- a power of 2 has one bit
pub member_power : (k e : ℕ) → member k (2 ^ e) ≡ eqb k e
unfolding member
member_power zero zero = refl
member_power zero (suc e) =
    ne_eqb (2 ^ suc e / 1 % 2) 1 (λ q. omega (arith, two-pow-succ e)) ∙ sym (eqb-zero-suc e)
member_power (suc k) zero = member_half k 1 ∙ none_in_zero k ∙ sym (eqb-suc-zero k)
member_power (suc k) (suc e) =
    let half : 2 ^ suc e / 2 ≡ 2 ^ e = omega (arith, two-pow-succ e) in
    member_half k (2 ^ suc e) ∙ ap (member k) half ∙ member_power k e ∙ sym (eqb-suc-suc k e)

-- 1 shifted within a width is that power of 2
pub one_shifted : (e w : ℕ) → e < w → 1 * 2 ^ e % 2 ^ w ≡ 2 ^ e
one_shifted e w h = rw (one-mul (2 ^ e)) (mod-eq_of_lt (pow-lt h))

-- an operation that shifts and remainders pass through, with its table on the digits 0 and 1
module _ (op : ℕ → ℕ → ℕ) (f : Bool → Bool → Bool)
    (shifted : (a b k : ℕ) → op a b / 2 ^ k ≡ op (a / 2 ^ k) (b / 2 ^ k))
    (lowest : (a b k : ℕ) → op a b % 2 ^ k ≡ op (a % 2 ^ k) (b % 2 ^ k))
    (at_00 : eqb (op 0 0) 1 ≡ f false false) (at_01 : eqb (op 0 1) 1 ≡ f false true)
    (at_10 : eqb (op 1 0) 1 ≡ f true false) (at_11 : eqb (op 1 1) 1 ≡ f true true) where
  of_digits : (a b : ℕ) → a < 2 → b < 2 → eqb (op a b) 1 ≡ f (eqb a 1) (eqb b 1)
  of_digits zero zero h l = at_00
  of_digits zero (suc zero) h l = at_01
  of_digits (suc zero) zero h l = at_10
  of_digits (suc zero) (suc zero) h l = at_11
  of_digits zero (suc (suc b)) h l = absurd (omega arith)
  of_digits (suc zero) (suc (suc b)) h l = absurd (omega arith)
  of_digits (suc (suc a)) b h l = absurd (omega arith)

  of_members : (k a b : ℕ) → member k (op a b) ≡ f (member k a) (member k b)
  unfolding member
  of_members k a b =
      ap (λ (n : ℕ). eqb (n % 2) 1) (shifted a b k)
      ∙ ap (λ (n : ℕ). eqb n 1) (lowest (a / 2 ^ k) (b / 2 ^ k) 1)
      ∙ of_digits (a / 2 ^ k % 2) (b / 2 ^ k % 2) (omega arith) (omega arith)

pub member_and : (k a b : ℕ) → member k (bit_and a b) ≡ member k a && member k b
member_and = of_members bit_and ◌&&◌ and_shr and_mod refl refl refl refl

pub member_or : (k a b : ℕ) → member k (bit_or a b) ≡ member k a || member k b
member_or = of_members bit_or ◌||◌ or_shr or_mod refl refl refl refl

pub member_xor : (k a b : ℕ) → member k (bit_xor a b) ≡ xor (member k a) (member k b)
unfolding xor
member_xor = of_members bit_xor xor xor_shr xor_mod refl refl refl refl
