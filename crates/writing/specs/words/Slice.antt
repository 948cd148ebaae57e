-- What writing a text comes to: the text in a lent slice, or refusal 12 with the length that the text would have.
use Rattle.std.specs.Prelude.{ℕ, List, length, leb}
use Rattle.std.proofs.lemmas.List.Edits.{sets}
use Rattle.lines.specs.Line.{choose}
use Rattle.writing.specs.Answers.{Saved, Written, Short}

-- an answer, with the slice after it
pub record Put : Type 0 where
  pub answer : Saved
  pub slice : List ℕ

abbrev pub with_slice : Saved → List ℕ → Put
with_slice r slice = record { answer = r; slice = slice }

-- a text and a slice: the text in front, with its length; or refusal 12 with the length, and the slice as it was
unfoldable pub written : List ℕ → List ℕ → Put
written t slice =
    choose (leb (length t) (length slice)) (with_slice (Written (length t)) (sets slice 0 t))
    (with_slice (Short (length t)) slice)

-- the paper's number of each answer, 0 where it is no refusal
unfoldable pub refusal : Saved → ℕ
refusal (Written n) = 0
refusal (Short n) = 12
