-- What writing comes to, by document 01's numbers of refusal, and what an answer of code tells of it.
use Rattle.std.specs.Prelude.{ℕ, Result, Ok, Err}
use Rattle.writing.specs.declared.TooShort.{TooShort}

-- the length of the text that is written; or refusal 12, with the length that the text would have
pub data Saved : Type 0 where
  Written : ℕ → Saved
  Short : ℕ → Saved

-- what an answer tells
unfoldable pub saved_told : Result ℕ TooShort → Saved
saved_told (Ok n) = Written n
saved_told (Err e) = Short e.length
