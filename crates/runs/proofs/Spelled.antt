-- Digits and addresses. The digits that stand in front of the lent array are the address that they are by themselves, since
-- each is read back where it was put. And every address of at most 1,024 digits can be spelled: as the digits of a script's
-- line, and in front of the array that a step takes; both are read back as itself. Assumes nothing.
use Rattle.std.specs.Prelude.{ℕ, zero, suc, ◌+◌, ◌/◌, ◌%◌, ◌≤◌, ◌<◌, ◌≡◌, List, [], ◌∷◌}
use Rattle.std.proofs.Common.{refl, ap, ap₂, ◌∙◌, arith, length, get_or, lt-ltb, zero-add, add-zero, add-suc}
use Rattle.std.proofs.Common.{suc-add}
use Rattle.std.proofs.lemmas.List.Edits.{sets, sets-eq}
use Rattle.std.proofs.Math.Option.{some}
use Rattle.std.proofs.Math.ListN.{get_or-append}
use Rattle.scripts.specs.Script.{most, address, asked}
use Rattle.scripts.proofs.Laws.{Each, asked_written}
use Rattle.rules.specs.Process.{Digit, one, two, three, four, Address}
use Rattle.looking.specs.code.Looking.{digit_at}
use Rattle.rules.specs.Addressed.{digit_of, byte_of, with_digit, address_of, spelled}
use Rattle.runs.specs.words.Held.{address_from, addressed}

-- the digits from a place on, by what each of them is
digits_read : (es : List ℕ) (count : ℕ) (vs : List ℕ) (at : ℕ)
    → ((k : ℕ) → k < length vs → digit_at es count (at + k) ≡ get_or vs k 0)
    → address_from es count at (length vs) ≡ address_of vs
unfolding address_from address_of
digits_read es count [] at each = refl
digits_read es count (a ∷ vs) at each =
    ap₂ (λ d b. with_digit (digit_of d) b) (rw (add-zero at) at (each zero (omega arith)))
    (digits_read es count vs (suc at) (λ k l.
    rw (add-suc at k, ← suc-add at k) at (each (suc k) (omega arith))))

-- the digit at a place of those in front
digit_there : (ds vs : List ℕ) → length vs ≤ length ds → length vs ≤ most → (k : ℕ) → k < length vs
    → digit_at (sets ds 0 vs) (length vs) (0 + k) ≡ get_or vs k 0
unfolding digit_at
digit_there ds vs fit few k l =
    rw (zero-add k, lt-ltb k (length vs) l, lt-ltb k 1024 (omega arith), sets-eq vs ds 0 (omega arith))
    (get_or-append vs _ 0 k l)

-- the digits put in front of the array are their address
pub digits_addressed : (ds vs : List ℕ) → length vs ≤ length ds → length vs ≤ most
    → addressed (sets ds 0 vs) (length vs) ≡ address_of vs
digits_addressed ds vs fit few =
    digits_read (sets ds 0 vs) (length vs) vs 0 (digit_there ds vs fit few)

-- an address is as long as its digits
spelled_length : (a : Address) → length (spelled a) ≡ length a
unfolding spelled
spelled_length [] = refl
spelled_length (d ∷ a) = ap suc (spelled_length a)

digit_back : (d : Digit) → digit_of (byte_of d) ≡ some d
unfolding digit_of byte_of
digit_back one = refl
digit_back two = refl
digit_back three = refl
digit_back four = refl

-- its digits are it
pub spelled_back : (a : Address) → address_of (spelled a) ≡ some a
unfolding address_of spelled with_digit
spelled_back [] = refl
spelled_back (d ∷ a) = rw (digit_back d, spelled_back a)

digit_byte : (d : Digit) → (1 ≤ byte_of d) × (byte_of d ≤ 4)
unfolding byte_of
digit_byte one = (omega arith, omega arith)
digit_byte two = (omega arith, omega arith)
digit_byte three = (omega arith, omega arith)
digit_byte four = (omega arith, omega arith)

spelled_each : (a : Address) → Each (spelled a)
unfolding spelled
spelled_each [] k h = absurd (omega arith)
spelled_each (d ∷ a) zero h = digit_byte d
spelled_each (d ∷ a) (suc k) h = spelled_each a k (omega arith)

module _ (a : Address) (few : length a ≤ most) where
  -- a script's line of these digits asks for the address
  pub spelled_line : asked (some (0x20 ∷ length (spelled a) / 256 ∷ length (spelled a) % 256 ∷ spelled a))
      ≡ address (spelled a)
  spelled_line =
      asked_written (spelled a) (record { few = omega (arith, spelled_length a); each = spelled_each a })

  -- and in front of a lent array they name it to a step
  pub spelled_array : (ds : List ℕ) → length ds ≡ most → addressed (sets ds 0 (spelled a)) (length a) ≡ some a
  spelled_array ds long =
      rw (← spelled_length a)
      (digits_addressed ds (spelled a) (omega (arith, spelled_length a)) (omega (arith, spelled_length a))
      ∙ spelled_back a)
