-- Document 01, 'Script': `20 llll digits`: one step, llll digits (0 to 1,024), a byte each, 01 to 04; and its
-- refusals 1, 2 and 3.
use Rattle.std.specs.Prelude.{ℕ, ◌+◌, Bool, true, ◌&&◌, List, [], ◌∷◌, length, get_or, take, drop, leb, eqb}
use Rattle.std.proofs.Math.Option.{Option, none, some}
use Rattle.lines.specs.Line.{choose, number, Raw, characters}
use Rattle.desk_lines.specs.DeskLine.{desk_frame}
use Rattle.scripts.specs.ScriptStep.{ScriptStep, Address, Refused, End}

-- the most digits that an address has
abbrev pub most : ℕ
most = 1024

-- the digits of a frame: what stands behind `20 llll`
abbrev pub digits : List ℕ → List ℕ
digits bs = drop 3 bs

-- a script's frame, with llll its line's count: where it is not, the refusal is 2
unfoldable pub well_formed : List ℕ → Bool
well_formed bs =
    eqb (get_or bs 0 0) 0x20 && (leb 3 (length bs) && eqb (number (take 2 (drop 1 bs))) (length (digits bs)))

-- each digit is 01 to 04
unfoldable pub all_digits : List ℕ → Bool
all_digits [] = true
all_digits (d ∷ ds) = leb 1 d && (leb d 4 && all_digits ds)

-- the digits are at most 1,024, each 01 to 04: where they are not, the refusal is 3
unfoldable pub in_range : List ℕ → Bool
in_range ds = leb (length ds) most && all_digits ds

-- what a line of a script asks for: a step by an address, or a refusal
pub data Asked : Type 0 where
  address : List ℕ → Asked
  refused : ℕ → Asked

-- in a line the lowest number wins
unfoldable pub asked : Option (List ℕ) → Asked
asked none = refused 1
asked (some bs) =
    choose (well_formed bs) (choose (in_range (digits bs)) (address (digits bs)) (refused 3)) (refused 2)

-- the address of what is asked; none where it is a refusal
unfoldable pub digits_of : Asked → List ℕ
digits_of (address ds) = ds
digits_of (refused r) = []

-- the answer that stands for what a line asks: how many digits its address has and where the next line
-- begins, or the paper's number of the refusal
unfoldable pub told : ℕ → Asked → ScriptStep
told next (address ds) = Address (length ds) next
told next (refused r) = Refused r

-- the answer for the first of a script's lines, where they stand from `at` on
unfoldable pub answer : ℕ → List Raw → ScriptStep
answer at [] = End
answer at (l ∷ ls) = told (at + length (characters l) + 1) (asked (desk_frame l))

-- the digits that the first of a script's lines leaves in the lent array
unfoldable pub left : List Raw → List ℕ
left [] = []
left (l ∷ ls) = digits_of (asked (desk_frame l))
