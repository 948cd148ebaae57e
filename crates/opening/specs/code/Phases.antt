-- What lines that are due come to, whatever they are handed: one line, and so many of one kind. `proofs/Work.antt` shows that
-- the parts, one behind the other, are document 01's reader.
use Rattle.std.specs.Prelude.{ℕ, zero, suc, ◌+◌, List, [], ◌∷◌, ◌++◌, length, eqb}
use Rattle.std.proofs.Math.Option.{Option, none, some}
use Rattle.lines.specs.Line.{choose, Raw, frame, characters}
use Rattle.opening.specs.Answers.{Lines, Goes, Stops}

-- a line that is due: it stops the work with the number that it meets, or leads it on, by its bytes, to the lines behind it
module _ {A : Type 0} (stops : ℕ → A) (meets : List ℕ → ℕ) (leads : List ℕ → ℕ → List Raw → A) where
  -- by its frame, where the next line begins at `next`: 1 where it is no line
  unfoldable pub by_frame : ℕ → List Raw → Option (List ℕ) → A
  by_frame next ls none = stops 1
  by_frame next ls (some bs) = choose (eqb (meets bs) 0) (leads bs next ls) (stops (meets bs))

  -- the first of the lines from `at` on: 2 where the text ends early
  unfoldable pub line_read : ℕ → List Raw → A
  line_read at [] = stops 2
  line_read at (l ∷ ls) = by_frame (at + length (characters l) + 1) ls (frame l)

-- lines of one kind: the answer, and what they have said as far as they were read
pub record Told (A : Type 0) : Type 0 where
  pub answer : Lines
  pub said : List A

-- a line that stops the work: what it tells is its number and its line
abbrev pub told_stop : {A : Type 0} → ℕ → ℕ → Told A
told_stop k r = record { answer = Stops r k; said = [] }

-- what lines tell, behind what was said before them
abbrev pub told_after : {A : Type 0} → List A → Told A → Told A
told_after xs t = record { answer = t.answer; said = xs ++ t.said }

module _ {A : Type 0} (meets : List ℕ → ℕ) (says : List ℕ → A) where
  -- so many lines of one kind, the first of them line k, from `at` on
  unfoldable pub lines_read : ℕ → ℕ → ℕ → List Raw → Told A
  lines_read zero k at ls = record { answer = Goes at; said = [] }
  lines_read (suc m) k at ls =
      line_read (told_stop k) meets (λ bs next ls. told_after (says bs ∷ []) (lines_read m (k + 1) next ls)) at ls
