-- Document 01, 'Numbers of refusal': a text is judged line by line, and the first failing line ends the work. What is no
-- line and an early end are the same for every text; the numbers that a line's bytes meet are told with each kind of text.
use Rattle.std.specs.Prelude.{ℕ, ◌+◌, List, [], ◌∷◌, eqb}
use Rattle.std.proofs.Math.Option.{Option, none, some}
use Rattle.lines.specs.Line.{choose, Raw}

-- a text: what it says, or a refusal's number and line
pub data Judged (A : Type 0) : Type 0 where
  accepted : A → Judged A
  refused : ℕ → ℕ → Judged A

-- how the lines of one kind of text are judged: the bytes of a line, none where it is no line of that text; and, by how
-- far the lines have come, what the text says once no line is due any more, the number that a line's bytes meet, 0 where
-- none, and how far the lines have come behind that line
pub record Judging (S A : Type 0) : Type 0 where
  pub reads : Raw → Option (List ℕ)
  pub whole : S → Option A
  pub number : S → List ℕ → ℕ
  pub behind : S → List ℕ → S

module _ {A : Type 0} (k : ℕ) where
  -- no line k is left: what the text says, or 2 where it ends early, told at the line after the last
  unfoldable pub at_end : Option A → Judged A
  at_end none = refused 2 k
  at_end (some a) = accepted a

  -- line k, by its bytes: 1 where it is no line, else the number that they meet, and where none what is judged behind it
  unfoldable pub at_line : (List ℕ → ℕ) → (List ℕ → Judged A) → Option (List ℕ) → Judged A
  at_line number behind none = refused 1 k
  at_line number behind (some bs) = choose (eqb (number bs) 0) (behind bs) (refused (number bs) k)

module _ {S A : Type 0} (j : Judging S A) where
  -- the lines from line k on
  unfoldable pub judged_from : S → ℕ → List Raw → Judged A
  judged_from s k [] = at_end k (j.whole s)
  judged_from s k (l ∷ ls) = at_line k (j.number s) (λ bs. judged_from (j.behind s bs) (k + 1) ls) (j.reads l)
