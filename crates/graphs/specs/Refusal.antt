-- Document 01, 'Numbers of refusal': what a saved text is refused with, and at which line.
use Rattle.std.specs.Prelude.{ℕ, ◌≤◌, ◌≡◌}

-- no line, a frame out of place, a number out of range, each with its line; or the shape, with line 0
pub data Refusal (n k : ℕ) : Type 0 where
  no_line : n ≡ 1 → 1 ≤ k → Refusal n k
  out_of_place : n ≡ 2 → 1 ≤ k → Refusal n k
  out_of_range : n ≡ 3 → 1 ≤ k → Refusal n k
  misshapen : n ≡ 13 → k ≡ 0 → Refusal n k
