-- Document 01, 'Lines': text is lines of hexadecimal, one frame a line: digits 0-9 a-f, an even count, at
-- least two, LF after every line; numbers of several bytes are high byte first. All that is written has such lines,
-- and a saved track has no others; what more a table or a script may have is told in `crates/desk_lines`.
use Rattle.std.specs.Prelude.{ℕ, ◌+◌, ◌-◌, ◌*◌, ◌/◌, ◌%◌, ◌<◌, Bool, true, false, ◌&&◌, List, [], ◌∷◌, ◌++◌, length, get_or, leb, ltb, eqb}
use Rattle.std.proofs.Math.Option.{Option, none, some}
use Rattle.lines.specs.declared.Line.{Line}
use Rattle.lines.specs.declared.Line.TheVariants.{Found, NoLine, End}

-- one of two, by a test
abbrev pub choose {ℓ} : {A : Type ℓ} → Bool → A → A → A
choose true a b = a
choose false a b = b

-- the line feed
abbrev pub LF : ℕ
LF = 10

-- what a character counts as a digit of hexadecimal, and 16 where it is none
unfoldable pub digit : ℕ → ℕ
digit c = choose (leb 48 c && leb c 57) (c - 48) (choose (leb 97 c && leb c 102) (c - 87) 16)

-- a line as it stands in a text: its characters with the LF behind them, or the last ones with no LF
pub data Raw : Type 0 where
  full : List ℕ → Raw
  open_ended : List ℕ → Raw

-- a character in front of the lines of what follows it
unfoldable pub before : ℕ → List Raw → List Raw
before c [] = open_ended (c ∷ []) ∷ []
before c (full cs ∷ ls) = full (c ∷ cs) ∷ ls
before c (open_ended cs ∷ ls) = open_ended (c ∷ cs) ∷ ls

-- the lines of a text
unfoldable pub lines : List ℕ → List Raw
lines [] = []
lines (c ∷ cs) = choose (eqb c LF) (full [] ∷ lines cs) (before c (lines cs))

-- a byte by its two digits, before the bytes that follow
unfoldable pub pair : ℕ → ℕ → Option (List ℕ) → Option (List ℕ)
pair h l none = none
pair h l (some bs) = choose (ltb h 16 && ltb l 16) (some ((h * 16 + l) ∷ bs)) none

-- the bytes that pairs of digits stand for
unfoldable pub bytes : List ℕ → Option (List ℕ)
bytes [] = some []
bytes (h ∷ []) = none
bytes (h ∷ l ∷ cs) = pair (digit h) (digit l) (bytes cs)

-- the bytes of a line, the frame; none where it is no line
unfoldable pub frame : Raw → Option (List ℕ)
frame (open_ended cs) = none
frame (full []) = none
frame (full (c ∷ cs)) = bytes (c ∷ cs)

-- the characters of a line
unfoldable pub characters : Raw → List ℕ
characters (full cs) = cs
characters (open_ended cs) = cs

-- a number of several bytes, high byte first, behind what was read of it
unfoldable pub number_from : ℕ → List ℕ → ℕ
number_from n [] = n
number_from n (b ∷ bs) = number_from (n * 256 + b) bs

-- a number of several bytes
abbrev pub number : List ℕ → ℕ
number bs = number_from 0 bs

-- the number of two bytes from byte k on; a byte that there is not counts as 0
abbrev pub number_at : ℕ → List ℕ → ℕ
number_at k bs = number (get_or bs k 0 ∷ get_or bs (k + 1) 0 ∷ [])

-- a number as two bytes
unfoldable pub two : ℕ → List ℕ
two n = n / 256 % 256 ∷ n % 256 ∷ []

-- the character of a digit
unfoldable pub character : ℕ → ℕ
character d = choose (ltb d 10) (48 + d) (87 + d)

-- bytes as hexadecimal
unfoldable pub hex : List ℕ → List ℕ
hex [] = []
hex (b ∷ bs) = character (b / 16) ∷ character (b % 16) ∷ hex bs

-- each is a byte, below 256
pub data Bytes : List ℕ → Type 0 where
  no_bytes : Bytes []
  byte_first : {b : ℕ} {bs : List ℕ} → b < 256 → Bytes bs → Bytes (b ∷ bs)

-- frames as a text, a line each
unfoldable pub text : List (List ℕ) → List ℕ
text [] = []
text (bs ∷ fs) = hex bs ++ LF ∷ text fs

-- each is a frame: bytes, at least one
pub data Frames : List (List ℕ) → Type 0 where
  no_frames : Frames []
  frame_first : {b : ℕ} {bs : List ℕ} {fs : List (List ℕ)} → Bytes (b ∷ bs) → Frames fs → Frames ((b ∷ bs) ∷ fs)

-- the answer for a line, by its bytes: where its characters end and where the next line begins, or that it is none
-- (refusal 1)
unfoldable pub seen : ℕ → ℕ → Option (List ℕ) → Line
seen end next none = NoLine
seen end next (some bs) = Found end next

-- the form of a text's lines: which of a line's characters stand in front of its end, and the bytes of a line
pub record Form : Type 0 where
  pub own : Raw → List ℕ
  pub reads : Raw → Option (List ℕ)

abbrev pub strict_form : Form
strict_form = record { own = characters; reads = frame }

-- the answer for the first of a text's lines, where the text stands from `at` on, or that there is no line left
unfoldable pub answer_of : Form → ℕ → List Raw → Line
answer_of f at [] = End
answer_of f at (l ∷ ls) = seen (at + length (f.own l)) (at + length (characters l) + 1) (f.reads l)

abbrev pub answer : ℕ → List Raw → Line
answer = answer_of strict_form

-- the paper's number of each answer that is no line, where a line is wanted: 1 for no line,
-- 2 for a text that ends early
unfoldable pub refusal : Line → ℕ
refusal (Found e n) = 0
refusal NoLine = 1
refusal End = 2
