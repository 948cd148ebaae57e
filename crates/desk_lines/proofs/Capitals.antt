-- Characters of a desk's line: which of them are digits, and runs of those. Assumes nothing.
use Rattle.std.proofs.Common.{ℕ, zero, suc, ◌≤◌, ◌<◌, ◌+◌, ◌-◌, ◌/◌, ◌%◌, ◌^◌, ◌≡◌, refl, sym, ap, ◌∙◌, Bool}
use Rattle.std.proofs.Common.{true, false, ◌&&◌, List, [], ◌∷◌, map, arith, leb, ltb, eqb, le-leb, leb-true}
use Rattle.std.proofs.Common.{ltb-true, ltb-false, lt-ltb, eqb-true, ne_eqb}
use Rattle.std.proofs.lemmas.Bool.{lt-leb, eqb-false}
use Rattle.lines.specs.Line.{choose, digit, LF}
use Rattle.lines.proofs.Digits.{both, digit_LF, Digits, no_more, one_more, Inline, none_inline, inline}
use Rattle.desk_lines.specs.DeskLine.{CR, small}

-- what is no capital stays
pub small_low : (c : ℕ) → c < 65 → small c ≡ c
unfolding small
small_low c h = simp (lt-leb 65 c h)

pub small_high : (c : ℕ) → 70 < c → small c ≡ c
unfolding small
small_high c h = simp (le-leb 65 c (omega arith), lt-leb c 70 h)

-- a strict digit stays
pub small_digit : (c : ℕ) → digit c < 16 → small c ≡ c
unfolding digit
small_digit c h = go (leb 48 c && leb c 57) (leb 97 c && leb c 102) refl refl h
  where
    go : (p q : Bool) → leb 48 c && leb c 57 ≡ p → leb 97 c && leb c 102 ≡ q
        → choose p (c - 48) (choose q (c - 87) 16) < 16 → small c ≡ c
    go true q e f h = small_low c (omega (arith, leb-true c 57 (both (leb 48 c) (leb c 57) e).1))
    go false true e f h = small_high c (omega (arith, leb-true 97 c (both (leb 97 c) (leb c 102) f).0))
    go false false e f h = absurd (omega arith)

-- digits by where a character stands among them
digit_low : (c : ℕ) → c < 48 → digit c ≡ 16
unfolding digit
digit_low c h = simp (lt-leb 48 c h, lt-leb 97 c (omega arith))

digit_between : (c : ℕ) → 57 < c → c < 97 → digit c ≡ 16
unfolding digit
digit_between c h k = simp (le-leb 48 c (omega arith), lt-leb c 57 h, lt-leb 97 c k)

digit_letter : (c : ℕ) → 97 ≤ c → digit c ≡ choose (leb c 102) (c - 87) 16
unfolding digit
digit_letter c h = simp (le-leb 48 c (omega arith), lt-leb c 57 (omega arith), le-leb 97 c h)

-- the same, of capitals too
abbrev pub IsDigit : ℕ → Bool → Type 0
IsDigit c b = b ≡ ltb (digit (small c)) 16

pub below_digits : (c : ℕ) → c < 48 → IsDigit c false
below_digits c h = rw (small_low c (omega arith), digit_low c h)

pub decimal : (c : ℕ) → 48 ≤ c → c ≤ 57 → IsDigit c true
unfolding digit
decimal c h k =
    rw (small_low c (omega arith))
    (simp (le-leb 48 c h, le-leb c 57 k, lt-ltb (c - 48) 16 (omega arith)))

pub between_digits : (c : ℕ) → 57 < c → c < 65 → IsDigit c false
between_digits c h k = rw (small_low c k, digit_between c h (omega arith))

pub letter : (c : ℕ) → 97 ≤ c → IsDigit c (leb c 102)
letter c h = rw (small_high c (omega arith), digit_letter c h) (go (leb c 102) refl)
  where
    go : (b : Bool) → leb c 102 ≡ b → b ≡ ltb (choose b (c - 87) 16) 16
    go true e = let l = leb-true c 102 e in simp (lt-ltb (c - 87) 16 (omega arith))
    go false e = refl

pub capital : (c : ℕ) → 65 ≤ c → c < 97 → IsDigit c (leb c 70)
unfolding small
capital c h k = simp (le-leb 65 c h) (go (leb c 70) refl)
  where
    go : (b : Bool) → leb c 70 ≡ b → b ≡ ltb (digit (choose b (c + 32) c)) 16
    go true e =
        let l = leb-true c 70 e in
        rw (digit_letter (c + 32) (omega arith))
        (simp (le-leb (c + 32) 102 (omega arith), lt-ltb (c + 32 - 87) 16 (omega arith)))
    go false e = rw (digit_between c (omega arith) k)

pub past_digits : (c : ℕ) → 102 < c → IsDigit c false
past_digits c h = sym (lt-leb c 102 h) ∙ letter c (omega arith)

-- the bits of a number tell the digits among the 64 characters from 48 on, each by computation
abbrev pub digit_bits : ℕ
digit_bits = 0x007e0000007e03ff

abbrev bit : ℕ → Bool
bit p = eqb (digit_bits / 2 ^ p % 2) 1

abbrev digit_at : ℕ → Bool
digit_at p = ltb (digit (small (p + 48))) 16

alike : Bool → Bool → Bool
alike true b = b
alike false b = choose b false true

alike_same : (a b : Bool) → alike a b ≡ true → a ≡ b
unfolding alike
alike_same true b q = sym q
alike_same false true q = q
alike_same false false q = refl

agree : (f g : ℕ → Bool) → ℕ → Bool
agree f g zero = true
agree f g (suc n) = choose (alike (f n) (g n)) (agree f g n) false

agree_at : (f g : ℕ → Bool) (n : ℕ) → agree f g n ≡ true → (p : ℕ) → p < n → f p ≡ g p
unfolding agree
agree_at f g zero e p h = absurd (omega arith)
agree_at f g (suc n) e p h = go (alike (f n) (g n)) refl e (eqb p n) refl (λ r. agree_at f g n r p)
  where
    go : (a : Bool) → alike (f n) (g n) ≡ a → choose a (agree f g n) false ≡ true → (b : Bool) → eqb p n ≡ b
        → (agree f g n ≡ true → p < n → f p ≡ g p) → f p ≡ g p
    go false s e b q further = let z : ◌≡◌ {A = ℕ} 0 1 = cc in absurd (omega arith)
    go true s e true q further = rw (eqb-true p n q) (alike_same (f n) (g n) s)
    go true s e false q further = further e (let other = eqb-false p n q in omega arith)

all_agree : agree bit digit_at 64 ≡ true
unfolding alike agree digit small
all_agree = refl

-- by a character's place among these; one below 48, too, has a place that is none
module _ (c : ℕ) (byte : c < 256) where
  pub bit_tells : (c + 208) % 256 < 64 → IsDigit c (bit ((c + 208) % 256))
  bit_tells h =
      let there : (c + 208) % 256 + 48 ≡ c = omega arith in
      agree_at bit digit_at 64 all_agree ((c + 208) % 256) h ∙ ap (λ (x : ℕ). ltb (digit (small x)) 16) there

  pub no_place : 64 ≤ (c + 208) % 256 → IsDigit c false
  no_place h = go (ltb c 48) refl
    where
      go : (b : Bool) → ltb c 48 ≡ b → IsDigit c false
      go true e = below_digits c (ltb-true c 48 e)
      go false e = let low = ltb-false c 48 e in past_digits c (omega arith)

-- digits stand in one line, and the CR with them
small_LF : small LF ≡ LF
small_LF = small_low LF (omega arith)

pub small_CR : small CR ≡ CR
small_CR = small_low CR (omega arith)

pub digit_CR : digit (small CR) ≡ 16
unfolding digit
digit_CR = rw small_CR

digit_no_feed : (c : ℕ) → digit (small c) < 16 → eqb c LF ≡ false
digit_no_feed c h =
    ne_eqb c LF (λ e. let d : digit (small c) ≡ 16 = ap digit (ap small e ∙ small_LF) ∙ digit_LF in omega arith)

pub digits_inline : (ds : List ℕ) → Digits (map small ds) → Inline ds
digits_inline [] no_more = none_inline
digits_inline (c ∷ ds) (one_more h t) = inline (digit_no_feed c h) (digits_inline ds t)
