-- Document 01's refusals by their numbers: which number each has, and what an answer tells by them.
use Rattle.std.specs.Prelude.{ℕ, Option, Some, None, Result, Ok, Err}
use Rattle.lines.specs.declared.Line.{Line}
use Rattle.lines.specs.declared.Line.TheVariants.{Found, NoLine, End}
use Rattle.lines.specs.declared.Span.{Span}
use Rattle.lines.specs.declared.Refusal.{Refusal}
use Rattle.lines.specs.declared.Refusal.TheVariants.{NotALine, WrongFrame, OutOfRange, Incomplete, TermOverRoom, TextOverRoom, NoDerivation}
use Rattle.lines.specs.declared.Refusal.TheVariants.{CellsOverRoom, NodesOverRoom, ArcsOverRoom, MeetingsOverRoom, SliceTooShort, ShapeBroken}

unfoldable pub number : Refusal → ℕ
number NotALine = 1
number WrongFrame = 2
number OutOfRange = 3
number Incomplete = 4
number TermOverRoom = 5
number TextOverRoom = 6
number NoDerivation = 7
number CellsOverRoom = 8
number NodesOverRoom = 9
number ArcsOverRoom = 10
number MeetingsOverRoom = 11
number SliceTooShort = 12
number ShapeBroken = 13

-- the number that a test meets, 0 where it meets none
unfoldable pub told : {A : Type 0} → Result A Refusal → ℕ
told (Ok a) = 0
told (Err r) = number r

-- the number of a refusal that there may be, 0 where there is none
unfoldable pub met : Option Refusal → ℕ
met None = 0
met (Some r) = number r

-- where a line is wanted: its ends, or the refusal where there is none
unfoldable pub wanted : Line → Result Span Refusal
wanted (Found e n) = Ok (record { end = e; next = n })
wanted NoLine = Err NotALine
wanted End = Err WrongFrame
