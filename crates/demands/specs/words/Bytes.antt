-- The bytes that a save has left in a slice.
use Rattle.std.specs.Prelude.{ℕ, List, [], take}
use Rattle.writing.specs.Answers.{Saved, Written, Short}

-- the text that stands in front of the slice; nothing where it was too short
unfoldable pub bytes_of : Saved → List ℕ → List ℕ
bytes_of (Written n) slice = take n slice
bytes_of (Short n) slice = []
