-- Refusals by their numbers: a number tells one refusal, and one answer of a test.
use Rattle.std.specs.Bool.{⊤}
use Rattle.std.proofs.Common.{ℕ, ◌+◌, ◌≡◌, eqb, Option, Some, None, Result, Ok, Err, refl, sym, ap, ◌∙◌, arith}
use denote.Enum.Declared.{tag_of}
use Rattle.lines.specs.contracts.Refusal.{the_type}
use Rattle.lines.specs.declared.Refusal.{Refusal}
use Rattle.lines.specs.declared.RefusedAt.{RefusedAt}
use Rattle.lines.specs.declared.Refusal.TheVariants.{NotALine, WrongFrame, OutOfRange, Incomplete, TermOverRoom, TextOverRoom, NoDerivation}
use Rattle.lines.specs.declared.Refusal.TheVariants.{CellsOverRoom, NodesOverRoom, ArcsOverRoom, MeetingsOverRoom, SliceTooShort, ShapeBroken}
use Rattle.lines.specs.Line.{choose, refusal}
use Rattle.lines.specs.declared.Line.{Line}
use Rattle.lines.specs.declared.Line.TheVariants.{Found, NoLine, End}
use Rattle.lines.specs.Refusal.{number, told, met, wanted}

-- a refusal counts as the number that its place in the declaration gives it
pub counted : (r : Refusal) → tag_of the_type r + 1 ≡ number r
unfolding number
counted NotALine = refl
counted WrongFrame = refl
counted OutOfRange = refl
counted Incomplete = refl
counted TermOverRoom = refl
counted TextOverRoom = refl
counted NoDerivation = refl
counted CellsOverRoom = refl
counted NodesOverRoom = refl
counted ArcsOverRoom = refl
counted MeetingsOverRoom = refl
counted SliceTooShort = refl
counted ShapeBroken = refl

-- the refusal of a number
of_number : ℕ → Refusal
of_number n =
    choose (eqb n 1) NotALine
    (choose (eqb n 2) WrongFrame
    (choose (eqb n 3) OutOfRange
    (choose (eqb n 4) Incomplete
    (choose (eqb n 5) TermOverRoom
    (choose (eqb n 6) TextOverRoom
    (choose (eqb n 7) NoDerivation
    (choose (eqb n 8) CellsOverRoom
    (choose (eqb n 9) NodesOverRoom
    (choose (eqb n 10) ArcsOverRoom
    (choose (eqb n 11) MeetingsOverRoom
    (choose (eqb n 12) SliceTooShort
    ShapeBroken)))))))))))

of_number_back : (r : Refusal) → of_number (number r) ≡ r
unfolding number of_number
of_number_back NotALine = refl
of_number_back WrongFrame = refl
of_number_back OutOfRange = refl
of_number_back Incomplete = refl
of_number_back TermOverRoom = refl
of_number_back TextOverRoom = refl
of_number_back NoDerivation = refl
of_number_back CellsOverRoom = refl
of_number_back NodesOverRoom = refl
of_number_back ArcsOverRoom = refl
of_number_back MeetingsOverRoom = refl
of_number_back SliceTooShort = refl
of_number_back ShapeBroken = refl

pub number_once : (r s : Refusal) → number r ≡ number s → r ≡ s
number_once r s same = sym (of_number_back r) ∙ ap of_number same ∙ of_number_back s

-- and its line with it
pub refused_once : (e f : RefusedAt) → number e.refusal ≡ number f.refusal → e.line ≡ f.line → e ≡ f
refused_once e f numbers lines = rw (number_once e.refusal f.refusal numbers, lines)

-- what a test comes to, by the number that it tells
of_told : ℕ → Result ⊤ Refusal
of_told n = choose (eqb n 0) (Ok tt) (Err (of_number n))

of_told_back : (x : Result ⊤ Refusal) → of_told (told x) ≡ x
unfolding told number of_number of_told
of_told_back (Ok tt) = refl
of_told_back (Err NotALine) = refl
of_told_back (Err WrongFrame) = refl
of_told_back (Err OutOfRange) = refl
of_told_back (Err Incomplete) = refl
of_told_back (Err TermOverRoom) = refl
of_told_back (Err TextOverRoom) = refl
of_told_back (Err NoDerivation) = refl
of_told_back (Err CellsOverRoom) = refl
of_told_back (Err NodesOverRoom) = refl
of_told_back (Err ArcsOverRoom) = refl
of_told_back (Err MeetingsOverRoom) = refl
of_told_back (Err SliceTooShort) = refl
of_told_back (Err ShapeBroken) = refl

pub told_once : (x y : Result ⊤ Refusal) → told x ≡ told y → x ≡ y
told_once x y same = sym (of_told_back x) ∙ ap of_told same ∙ of_told_back y

-- a refusal that there may be, by the number that it tells
of_met : ℕ → Option Refusal
of_met n = choose (eqb n 0) None (Some (of_number n))

of_met_back : (x : Option Refusal) → of_met (met x) ≡ x
unfolding met number of_number of_met
of_met_back None = refl
of_met_back (Some NotALine) = refl
of_met_back (Some WrongFrame) = refl
of_met_back (Some OutOfRange) = refl
of_met_back (Some Incomplete) = refl
of_met_back (Some TermOverRoom) = refl
of_met_back (Some TextOverRoom) = refl
of_met_back (Some NoDerivation) = refl
of_met_back (Some CellsOverRoom) = refl
of_met_back (Some NodesOverRoom) = refl
of_met_back (Some ArcsOverRoom) = refl
of_met_back (Some MeetingsOverRoom) = refl
of_met_back (Some SliceTooShort) = refl
of_met_back (Some ShapeBroken) = refl

pub met_once : (x y : Option Refusal) → met x ≡ met y → x ≡ y
met_once x y same = sym (of_met_back x) ∙ ap of_met same ∙ of_met_back y

-- no refusal has the number 0
pub number_not_0 : (r : Refusal) → number r ≡ 0 → ⊥
number_not_0 r e = omega (arith, counted r, e)

-- where a line is wanted, what is told is the number that there is none
pub wanted_told : (l : Line) → told (wanted l) ≡ refusal l
unfolding told number wanted refusal
wanted_told (Found e n) = refl
wanted_told NoLine = refl
wanted_told End = refl
