-- What putting characters comes to, whatever the slice and the cursor are.
use Rattle.std.specs.Prelude.{ℕ, ◌+◌, ◌≡◌, List, length}
use Rattle.std.proofs.lemmas.List.Edits.{sets}

-- characters stand from a cursor on, as far as the slice goes, and the cursor is behind them
pub record Puts (at : ℕ) (xs before after : List ℕ) (end : ℕ) : Type 0 where
  pub ends : end ≡ at + length xs
  pub stands : after ≡ sets before at xs

-- how far a cursor may have come before a byte, a number, a line, and lines of pairs, so that no sum of it is too large: a text of
-- a track is far shorter
abbrev pub byte_cursor : ℕ
byte_cursor = 3000000

abbrev pub number_cursor : ℕ
number_cursor = 2500000

abbrev pub line_cursor : ℕ
line_cursor = 2000000

abbrev pub pairs_cursor : ℕ
pairs_cursor = 1500000
