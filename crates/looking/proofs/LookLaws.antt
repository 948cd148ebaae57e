-- What a step looks up on its way, by what its tests found. The parents of two references are counted from
-- the first arc on: what is found, with the parents among the arcs that are left, is all of them.
-- Assumes nothing.
use Rattle.std.proofs.Common.{ℕ, zero, suc, ◌+◌, ◌*◌, ◌-◌, ◌≤◌, ◌<◌, min, ◌≡◌, refl, ap, ◌∙◌, Bool}
use Rattle.std.proofs.Common.{true, false, List, arith, zero-add, add-one, eqb, lt-ltb}
use Rattle.std.proofs.Common.{le-ltb}
use Rattle.std.proofs.Math.Nat.{sub-zero}
use Rattle.lines.specs.Line.{choose}
use Rattle.control.specs.words.Words.{track_word}
use Rattle.columns.specs.words.Columns.{look}
use Rattle.looking.specs.code.Looking.{digit_at, taken}
use Rattle.looking.specs.code.Looking.{leads, parents}

-- a digit of an address
module _ (ds : List ℕ) (count at : ℕ) where
  pub digit_behind : count ≤ at → 0 ≡ digit_at ds count at
  unfolding digit_at
  digit_behind h = simp (le-ltb at count h)

  pub digit_told : at < count → digit_at ds count at ≡ look 1024 ds at
  unfolding digit_at look
  digit_told h = simp (lt-ltb at count h)

-- a side is 1 or 2
pub side_few : (d m : ℕ) → m ≡ taken d 1 2 → (1 ≤ m) × (m ≤ 2)
unfolding taken
side_few d m h = go (eqb d 2) h
  where
    go : (b : Bool) → m ≡ choose b 2 1 → (1 ≤ m) × (m ≤ 2)
    go true h = (omega arith, omega arith)
    go false h = (omega arith, omega arith)

-- one more where a test holds
module _ (l : Bool) where
  at_most_one : choose l 1 0 ≤ 1
  at_most_one = go l
    where
      go : (l : Bool) → choose l 1 0 ≤ 1
      go true = omega arith
      go false = omega arith

  module _ (n next : ℕ) where
    pub one_found : l ≡ true → next ≡ n + 1 → next ≡ n + choose l 1 0
    one_found h e = rw h e

    pub none_found : l ≡ false → next ≡ n → next ≡ n + choose l 1 0
    none_found h e = rw h (omega arith)

-- the parents of two references
module _ (w : List ℕ) (a b : ℕ) where
  -- past the last arc, or past those that there is room for
  parents_past : (i n : ℕ) → min (i + n) 8192 ≤ i → parents w a b i n ≡ 0
  unfolding parents
  parents_past i zero h = refl
  parents_past i (suc n) h = let past : 8192 ≤ i = omega arith in simp (le-ltb i 8192 past)

  parents_next : (i n : ℕ) → i < 8192
      → parents w a b i (suc n) ≡ choose (leads (track_word w (2 * i + 1)) a b) 1 0 + parents w a b (suc i) n
  unfolding parents
  parents_next i n h = simp (lt-ltb i 8192 h)

  -- so many are found before arc i
  pub record Counted (arcs found i : ℕ) : Type 0 where
    pub within : i ≤ arcs
    pub few : found ≤ i
    pub told : found + parents w a b i (arcs - i) ≡ parents w a b 0 arcs

  module _ (arcs : ℕ) where
    pub none_counted : Counted arcs 0 0
    none_counted = record { within = omega arith; few = omega arith; told = simp (zero-add, sub-zero) }

    module _ (found i : ℕ) (so : Counted arcs found i) where
      pub counted_all : min arcs 8192 ≤ i → found ≡ parents w a b 0 arcs
      counted_all h =
          let within = so.within in
          omega (arith, so.told, parents_past i (arcs - i) (omega arith))

      module _ (below : i < arcs) (room : i < 8192) (to : ℕ) (l : Bool)
          (to_is : to ≡ track_word w (2 * i + 1)) (l_is : l ≡ leads to a b) where
        pub counted_on : (next : ℕ) → next ≡ found + choose l 1 0 → Counted arcs next (i + 1)
        counted_on next h =
            let more : arcs - i ≡ suc (arcs - suc i) = omega arith in
            let led : leads (track_word w (2 * i + 1)) a b ≡ l = rw (← to_is, ← l_is) in
            let turn = rw led at (ap (parents w a b i) more ∙ parents_next i (arcs - suc i) room) in
            record {
              within = omega arith;
              few = omega (arith, at_most_one l);
              told = rw (add-one i) (omega (arith, so.told, turn));
            }
