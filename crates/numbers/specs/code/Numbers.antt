-- What characters stand for, two by two, whatever they are. `proofs/Laws.antt` shows that the bytes of a line's characters
-- are the line's.
use Rattle.std.specs.Prelude.{ℕ, ◌+◌, ◌*◌, ◌/◌, ◌%◌, List, [], ◌∷◌, get_or}

-- what a digit counts, by arithmetic alone
abbrev pub value : ℕ → ℕ
value c = c % 16 + c / 64 * 9

-- the byte of two characters that are digits
abbrev pub byte_of : ℕ → ℕ → ℕ
byte_of h l = value h % 16 * 16 + value l % 16

-- the bytes that characters stand for, two by two, with no test
unfoldable pub read_bytes : List ℕ → List ℕ
read_bytes [] = []
read_bytes (h ∷ []) = []
read_bytes (h ∷ l ∷ cs) = byte_of h l ∷ read_bytes cs

-- byte number k, and 0 where the characters have no such byte
abbrev pub byte_at : List ℕ → ℕ → ℕ
byte_at cs k = get_or (read_bytes cs) k 0

-- the number of all the characters' bytes, within 64 bits, behind what was read of it
unfoldable pub number_of : ℕ → List ℕ → ℕ
number_of n [] = n
number_of n (h ∷ []) = n
number_of n (h ∷ l ∷ cs) = number_of (n % 72057594037927936 * 256 + byte_of h l) cs
