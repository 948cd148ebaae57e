-- Document 01, 'The program's listing', with document 02's W1: the table's text runs through the first line that starts
-- `1f` or `1F`, or to the end of the input; what stands behind it is the script.
use Rattle.std.specs.Prelude.{ℕ, ◌+◌, Bool, false, ◌||◌, List, [], ◌∷◌, length, take, drop, eqb}
use Rattle.lines.specs.Line.{choose, Raw, full, open_ended, lines, characters}

-- the characters `1`, `f` and `F`
abbrev pub one : ℕ
one = 49

abbrev pub f : ℕ
f = 102

abbrev pub capital_f : ℕ
capital_f = 70

-- characters that start `1f` or `1F`
unfoldable pub starts_1f : List ℕ → Bool
starts_1f [] = false
starts_1f (c ∷ []) = false
starts_1f (c ∷ d ∷ cs) = choose (eqb c one) (eqb d f || eqb d capital_f) false

-- how many bytes of a text a line is, its LF with it
unfoldable pub extent : Raw → ℕ
extent (full cs) = length cs + 1
extent (open_ended cs) = length cs

-- how many bytes of a text its lines are, through the first that starts `1f` or `1F`
unfoldable pub table_length : List Raw → ℕ
table_length [] = 0
table_length (l ∷ ls) = choose (starts_1f (characters l)) (extent l) (extent l + table_length ls)

-- the table's text of an input
unfoldable pub table_text : List ℕ → List ℕ
table_text input = take (table_length (lines input)) input

-- the script's text of an input
unfoldable pub script_text : List ℕ → List ℕ
script_text input = drop (table_length (lines input)) input
