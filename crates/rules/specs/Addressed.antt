-- Document 01, 'Lines' (Script) and 'Steps and addresses': digits as an address.
use Rattle.std.specs.Prelude.{ℕ, List, [], ◌∷◌, eqb}
use Rattle.std.proofs.Math.Option.{Option, none, some}
use Rattle.lines.specs.Line.{choose}
use Rattle.terms.specs.Term.{Term}
use Rattle.rules.specs.Process.{Digit, one, two, three, four, Address}
use Rattle.rules.specs.Run.{State}
use Rattle.rules.specs.Run as Run

-- the digit that a byte stands for
unfoldable pub digit_of : ℕ → Option Digit
digit_of d =
    choose (eqb d 1) (some one)
    (choose (eqb d 2) (some two) (choose (eqb d 3) (some three) (choose (eqb d 4) (some four) none)))

-- and back
unfoldable pub byte_of : Digit → ℕ
byte_of one = 1
byte_of two = 2
byte_of three = 3
byte_of four = 4

unfoldable pub with_digit : Option Digit → Option Address → Option Address
with_digit none a = none
with_digit (some d) none = none
with_digit (some d) (some a) = some (d ∷ a)

-- the address that digits are
unfoldable pub address_of : List ℕ → Option Address
address_of [] = some []
address_of (d ∷ ds) = with_digit (digit_of d) (address_of ds)

-- the digits of an address, a byte each
unfoldable pub spelled : Address → List ℕ
spelled [] = []
spelled (d ∷ a) = byte_of d ∷ spelled a

-- what an address comes to; where there is none, no derivation has it
unfoldable pub answered : List Term → State → Option Address → Run.Answer
answered ts s none = Run.refused 7
answered ts s (some a) = Run.answer ts s a
