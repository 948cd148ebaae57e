-- What a digit counts, by arithmetic alone, is what it counts. Assumes nothing.
use Rattle.std.proofs.Common.{ℕ, ◌<◌, ◌-◌, ◌+◌, ◌≡◌, refl, Bool, true, false, ◌&&◌, arith, leb, leb-true}
use Rattle.lines.specs.Line.{choose, digit}
use Rattle.desk_lines.specs.DeskLine.{small}
use Rattle.numbers.specs.code.Numbers.{value}

-- what a digit counts is what arithmetic makes of it
pub value_digit : (c : ℕ) → digit c < 16 → value c ≡ digit c
unfolding digit
value_digit c h = go (leb 48 c) (leb c 57) (leb 97 c) (leb c 102) refl refl refl refl h
  where
    letter : (p q : Bool) → leb 97 c ≡ p → leb c 102 ≡ q → choose (p && q) (c - 87) 16 < 16
        → value c ≡ choose (p && q) (c - 87) 16
    letter true true e₁ e₂ h = omega (arith, leb-true 97 c e₁, leb-true c 102 e₂)
    letter true false e₁ e₂ h = absurd (omega arith)
    letter false q e₁ e₂ h = absurd (omega arith)

    go : (a b p q : Bool) → leb 48 c ≡ a → leb c 57 ≡ b → leb 97 c ≡ p → leb c 102 ≡ q
        → choose (a && b) (c - 48) (choose (p && q) (c - 87) 16) < 16
        → value c ≡ choose (a && b) (c - 48) (choose (p && q) (c - 87) 16)
    go true true p q e₁ e₂ e₃ e₄ h = omega (arith, leb-true 48 c e₁, leb-true c 57 e₂)
    go true false p q e₁ e₂ e₃ e₄ h = letter p q e₃ e₄ h
    go false b p q e₁ e₂ e₃ e₄ h = letter p q e₃ e₄ h

-- a capital counts as its small letter does
pub value_small : (c : ℕ) → value (small c) ≡ value c
unfolding small
value_small c = go (leb 65 c) (leb c 70) refl refl
  where
    go : (a b : Bool) → leb 65 c ≡ a → leb c 70 ≡ b → value (choose (a && b) (c + 32) c) ≡ value c
    go true true e₁ e₂ = omega (arith, leb-true 65 c e₁, leb-true c 70 e₂)
    go true false e₁ e₂ = refl
    go false b e₁ e₂ = refl
