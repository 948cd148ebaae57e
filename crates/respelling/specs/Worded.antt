-- A line of a table or a script in the words of document 02's W1, with no mention of its strict spelling: digits 0-9 a-f A-F, an
-- even count, at least two, then LF or CR LF.
use Rattle.std.specs.Prelude.{ℕ, ◌≤◌, List, [], ◌∷◌, ◌++◌}
use Rattle.lines.specs.Line.{Raw, full}
use Rattle.desk_lines.specs.DeskLine.{CR}

-- a digit
pub data Digit : ℕ → Type 0 where
  decimal : {c : ℕ} → 48 ≤ c → c ≤ 57 → Digit c
  letter : {c : ℕ} → 97 ≤ c → c ≤ 102 → Digit c
  capital : {c : ℕ} → 65 ≤ c → c ≤ 70 → Digit c

-- an even count of them
pub data Pairs : List ℕ → Type 0 where
  no_pair : Pairs []
  pair_first : {h l : ℕ} {cs : List ℕ} → Digit h → Digit l → Pairs cs → Pairs (h ∷ l ∷ cs)

-- what stands in front of the LF
pub data End : List ℕ → Type 0 where
  by_LF : End []
  by_CR_LF : End (CR ∷ [])

-- at least two digits, and an end
pub data Worded : Raw → Type 0 where
  worded : {h l : ℕ} {cs end : List ℕ} → Digit h → Digit l → Pairs cs → End end → Worded (full ((h ∷ l ∷ cs) ++ end))
