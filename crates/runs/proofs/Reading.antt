-- The address that digits are: where each of them is a digit, it stands among them, as the weight of a step reads it; and
-- where there is none, one of them is no digit. By one digit after the other. Assumes nothing.
use Rattle.std.proofs.Common.{ℕ, zero, suc, ◌+◌, ◌≤◌, ◌<◌, ◌≡◌, refl, ap, ◌∙◌, Bool, true, false, List, []}
use Rattle.std.proofs.Common.{◌∷◌, arith, eqb, eqb-true}
use Rattle.std.proofs.lemmas.Bool.{eqb-false}
use Rattle.std.proofs.Math.Option.{Option, none, some}
use Rattle.lines.specs.Line.{choose}
use Rattle.rules.specs.Process.{Digit, one, two, three, four, Address}
use Rattle.looking.specs.code.Looking.{digit_at}
use Rattle.weighing.proofs.Told.{number, From}
use Rattle.rules.specs.Addressed.{digit_of, with_digit}
use Rattle.runs.specs.words.Held.{address_from}

-- a digit is told by its number
digit_told : (n : ℕ) (d : Digit) → digit_of n ≡ some d → n ≡ number d
unfolding digit_of number
digit_told n d e = go _ _ _ _ refl refl refl refl e
  where
    go : (b₁ b₂ b₃ b₄ : Bool) → eqb n 1 ≡ b₁ → eqb n 2 ≡ b₂ → eqb n 3 ≡ b₃ → eqb n 4 ≡ b₄
        → choose b₁ (some one) (choose b₂ (some two) (choose b₃ (some three) (choose b₄ (some four) none))) ≡ some d
        → n ≡ number d
    go true b₂ b₃ b₄ e₁ e₂ e₃ e₄ e = let is : one ≡ d = cc in eqb-true n 1 e₁ ∙ ap number is
    go false true b₃ b₄ e₁ e₂ e₃ e₄ e = let is : two ≡ d = cc in eqb-true n 2 e₂ ∙ ap number is
    go false false true b₄ e₁ e₂ e₃ e₄ e = let is : three ≡ d = cc in eqb-true n 3 e₃ ∙ ap number is
    go false false false true e₁ e₂ e₃ e₄ e = let is : four ≡ d = cc in eqb-true n 4 e₄ ∙ ap number is
    go false false false false e₁ e₂ e₃ e₄ e = let z : ◌≡◌ {A = ℕ} 0 1 = cc in absurd (omega arith)

-- what is no digit is none of 1 to 4
pub no_digit : (n : ℕ) → digit_of n ≡ none → 1 ≤ n → n ≤ 4 → ⊥
unfolding digit_of
no_digit n e l h = go _ _ _ _ refl refl refl refl e
  where
    go : (b₁ b₂ b₃ b₄ : Bool) → eqb n 1 ≡ b₁ → eqb n 2 ≡ b₂ → eqb n 3 ≡ b₃ → eqb n 4 ≡ b₄
        → choose b₁ (some one) (choose b₂ (some two) (choose b₃ (some three) (choose b₄ (some four) none))) ≡ none → ⊥
    go true b₂ b₃ b₄ e₁ e₂ e₃ e₄ e = let z : ◌≡◌ {A = ℕ} 0 1 = cc in omega arith
    go false true b₃ b₄ e₁ e₂ e₃ e₄ e = let z : ◌≡◌ {A = ℕ} 0 1 = cc in omega arith
    go false false true b₄ e₁ e₂ e₃ e₄ e = let z : ◌≡◌ {A = ℕ} 0 1 = cc in omega arith
    go false false false true e₁ e₂ e₃ e₄ e = let z : ◌≡◌ {A = ℕ} 0 1 = cc in omega arith
    go false false false false e₁ e₂ e₃ e₄ e =
        omega (arith, eqb-false n 1 e₁, eqb-false n 2 e₂, eqb-false n 3 e₃, eqb-false n 4 e₄)

module _ (ds : List ℕ) (count : ℕ) where
  -- an address stands among the digits that it is read from
  pub address_reads : (at n : ℕ) (a : Address) → at + n ≡ count → address_from ds count at n ≡ some a
      → From ds count at a
  unfolding address_from with_digit
  address_reads at zero a h e = let is : [] ≡ a = cc in rw (← is) (omega arith)
  address_reads at (suc n) a h e =
      go _ _ refl refl (λ b q. address_reads (suc at) n b (omega arith) q) e
    where
      go : (o : Option Digit) (r : Option Address) → digit_of (digit_at ds count at) ≡ o
          → address_from ds count (suc at) n ≡ r
          → ((b : Address) → address_from ds count (suc at) n ≡ some b → From ds count (suc at) b)
          → with_digit o r ≡ some a → From ds count at a
      go none r p q h e = let z : ◌≡◌ {A = ℕ} 0 1 = cc in absurd (omega arith)
      go (some d) none p q h e = let z : ◌≡◌ {A = ℕ} 0 1 = cc in absurd (omega arith)
      go (some d) (some b) p q h e =
          let is : d ∷ b ≡ a = cc in rw (← is) (digit_told (digit_at ds count at) d p, h b q)

  -- n digits from a place on, one of which is none
  pub record Wrong (at n : ℕ) : Type 0 where
    pub place : ℕ
    pub before : place < at + n
    pub wrong : digit_of (digit_at ds count place) ≡ none

  pub address_stops : (at n : ℕ) → address_from ds count at n ≡ none → Wrong at n
  unfolding address_from with_digit
  address_stops at zero e = let z : ◌≡◌ {A = ℕ} 0 1 = cc in absurd (omega arith)
  address_stops at (suc n) e = go _ _ refl refl (address_stops (suc at) n) e
    where
      go : (o : Option Digit) (r : Option Address) → digit_of (digit_at ds count at) ≡ o
          → address_from ds count (suc at) n ≡ r → (address_from ds count (suc at) n ≡ none → Wrong (suc at) n)
          → with_digit o r ≡ none → Wrong at (suc n)
      go none r p q h e = record { place = at; before = omega arith; wrong = p }
      go (some d) none p q h e =
          let k = h q in record { place = k.place; before = omega (arith, k.before); wrong = k.wrong }
      go (some d) (some b) p q h e = let z : ◌≡◌ {A = ℕ} 0 1 = cc in absurd (omega arith)
