-- Sets by their members alone. Two numbers with the same bits are equal, by induction on the bits, so what is
-- told of a set by its members allows one set only; and a number that is not 0 has a bit, found the same way.
-- Over any width. Assumes nothing.
use Rattle.std.proofs.Common.{ℕ, suc, ◌/◌, ◌%◌, ◌≡◌, refl, sym, ◌∙◌, Bool, true, false, ◌&&◌, ◌||◌}
use Rattle.std.proofs.Common.{true≢false, arith, bit_and, bit_or, bit_xor, eqb, eqb-true, ne_eqb}
use Rattle.std.proofs.lemmas.Bool.{false≢true, eqb-false}
use Rattle.std.proofs.Math.Bool.{xor}
use Rattle.std.proofs.Math.Arith.{bin_ind}
use Rattle.lines.specs.Line.{choose}
use Rattle.sets.specs.EventSet.{member}
use Rattle.sets.proofs.Members.{set_within}
use Rattle.sets.specs.Told.{SetOf, shown, Emptiness}
use Rattle.sets.proofs.Bits.{member_lowest, member_half, none_in_zero, member_and, member_or}
use Rattle.sets.proofs.Bits.{member_xor}

-- a number that is not 0 has a bit: the lowest, or one of its half
higher_member : (n : ℕ) → (eqb (n / 2) 0 ≡ false → (k : ℕ) × (member k (n / 2) ≡ true)) → eqb n 0 ≡ false
    → (k : ℕ) × (member k n ≡ true)
higher_member n half h = go (member 0 n) refl
  where
    go : (b : Bool) → member 0 n ≡ b → (k : ℕ) × (member k n ≡ true)
    go true q = (0, q)
    go false q =
        let even : n % 2 ≡ 0 = rw q at (member_lowest n) in
        let found = half (ne_eqb (n / 2) 0 (λ z. eqb-false n 0 h (omega arith))) in
        (suc found.0, member_half found.0 n ∙ found.1)

some_member : (x : ℕ) → eqb x 0 ≡ false → (k : ℕ) × (member k x ≡ true)
some_member =
    bin_ind
    (λ (n : ℕ). eqb n 0 ≡ false → (k : ℕ) × (member k n ≡ true))
    (λ h. absurd (true≢false h))
    higher_member

-- a set has no event where its number is 0, and some event where it is not
pub empty_told : (x : ℕ) → Emptiness x (eqb x 0)
empty_told x = record {
  no_event = λ q k. rw (eqb-true x 0 q) (none_in_zero k);
  some_event = some_member x;
}

-- the same events are in both
abbrev Same : ℕ → ℕ → Type 0
Same x y = (k : ℕ) → member k x ≡ member k y

no_members : (y : ℕ) → Same 0 y → 0 ≡ y
no_members y h =
    let below = (set_within y 0).1 (λ k m. absurd (false≢true (sym (none_in_zero k) ∙ h k ∙ m))) in
    omega arith

same_halves : (x : ℕ) → ((y : ℕ) → Same (x / 2) y → x / 2 ≡ y) → (y : ℕ) → Same x y → x ≡ y
same_halves x same y h =
    let above = same (y / 2) (λ k. sym (member_half k x) ∙ h (suc k) ∙ member_half k y) in
    let lowest : x % 2 ≡ y % 2 = member_lowest x ∙ rw (h 0) (sym (member_lowest y)) in
    omega arith

-- two numbers with the same members are equal
pub same_members : (x y : ℕ) → ((k : ℕ) → member k x ≡ member k y) → x ≡ y
same_members = bin_ind (λ (x : ℕ). (y : ℕ) → Same x y → x ≡ y) no_members same_halves

-- what is told of a set by its members allows one set only
pub told_once : (test : ℕ → Bool) (x y : ℕ) → SetOf test x → SetOf test y → x ≡ y
told_once test x y h g = same_members x y (λ k. h k ∙ sym (g k))

-- those of either side, less those inside x that only one side has, are what a parallel shows
pub shown_told : (x l r : ℕ) → SetOf (shown x l r) (bit_xor (bit_or l r) (bit_and (bit_xor l r) x))
unfolding xor
shown_told x l r k = simp (member_xor, member_or, member_and) (go (member k x) (member k l) (member k r))
  where
    go : (a b c : Bool) → xor (b || c) (xor b c && a) ≡ choose a (b && c) (b || c)
    go true true true = refl
    go true true false = refl
    go true false true = refl
    go true false false = refl
    go false true true = refl
    go false true false = refl
    go false false true = refl
    go false false false = refl
