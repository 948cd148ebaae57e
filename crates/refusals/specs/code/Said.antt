-- What a line of a text says at a cursor. `proofs/Cursor.antt` shows it of the functions that read there.
use Rattle.std.specs.Prelude.{ℕ, ◌+◌, List, [], ◌∷◌, length, eqb, Result, Ok, Err}
use Rattle.std.proofs.Math.Option.{Option, none, some}
use Rattle.lines.specs.Line.{choose, Raw, characters}
use Rattle.lines.specs.Refusal.{number}
use Rattle.lines.specs.declared.Refusal.{Refusal}
use Rattle.desk_lines.specs.DeskLine.{desk_frame}
use Rattle.frames.specs.TableFrame.{frame_of, first_refusal}
use Rattle.frames.specs.declared.Frame.{Frame}
use Rattle.frames.specs.declared.Frame.TheVariants.{Opening, Definition, Term, Closing, Wrong}
use Rattle.refusals.specs.declared.FrameLine.{FrameLine}
use Rattle.refusals.specs.declared.TableOpening.{TableOpening}

-- what a line says: its frame, with the next line from there on; or the number of its refusal
pub data Said : Type 0 where
  Goes : Frame → ℕ → Said
  Stops : ℕ → Said

-- what line 1 opens: a table of so many definitions and events, with the next line from there on; or the number of
-- its refusal
pub data TableOpened : Type 0 where
  Table : ℕ → ℕ → ℕ → TableOpened
  Fails : ℕ → TableOpened

-- what an answer of the code tells
unfoldable pub line_told : Result FrameLine Refusal → Said
line_told (Ok l) = Goes l.frame l.next
line_told (Err r) = Stops (number r)

unfoldable pub first_told : Result TableOpening Refusal → TableOpened
first_told (Ok o) = Table o.definitions o.events o.next
first_told (Err r) = Fails (number r)

-- what a line says, where its text stands from `at` on: its frame and where the next line begins, or the
-- number that it meets
unfoldable pub heard : (Frame → ℕ) → ℕ → Option (List ℕ) → Said
heard r next none = Stops 1
heard r next (some bs) =
    choose (eqb (r (frame_of bs)) 0) (Goes (frame_of bs) next) (Stops (r (frame_of bs)))

unfoldable pub said : (Frame → ℕ) → ℕ → List Raw → Said
said r at [] = Stops 2
said r at (l ∷ ls) = heard r (at + length (characters l) + 1) (desk_frame l)

-- line 1 by its frame, where the next line begins at `next`: what it opens, or the number that it meets
unfoldable pub opens : ℕ → Frame → TableOpened
opens next Wrong = Fails 2
opens next (Opening ed dd ee) = choose (eqb (first_refusal (Opening ed dd ee)) 0) (Table dd ee next) (Fails 3)
opens next (Definition n) = Fails 2
opens next (Term k p) = Fails 2
opens next (Closing t) = Fails 2

unfoldable pub opened_by : ℕ → Option (List ℕ) → TableOpened
opened_by next none = Fails 1
opened_by next (some bs) = opens next (frame_of bs)

-- line 1 of a text
unfoldable pub opened : List Raw → TableOpened
opened [] = Fails 2
opened (l ∷ ls) = opened_by (length (characters l) + 1) (desk_frame l)
