-- Document 01, 'Lines', the table of kinds: what stands after kk, and how many subterms a term has.
use Rattle.std.specs.Prelude.{ℕ, Bool, ◌&&◌, List, [], ◌∷◌, get_or, leb}

abbrev pub call : ℕ
call = 1

abbrev pub prefix : ℕ
prefix = 2

abbrev pub internal : ℕ
internal = 3

abbrev pub external : ℕ
external = 4

abbrev pub sequence : ℕ
sequence = 5

abbrev pub parallel : ℕ
parallel = 6

abbrev pub SKIP : ℕ
SKIP = 7

abbrev pub STOP : ℕ
STOP = 8

-- a kind that the table of kinds has
unfoldable pub known : ℕ → Bool
known k = leb call k && leb k STOP

-- by kk, from 00, which is no kind: the bytes after kk
abbrev pub payload_table : List ℕ
payload_table = 0 ∷ 1 ∷ 1 ∷ 0 ∷ 0 ∷ 0 ∷ 8 ∷ 0 ∷ 0 ∷ []

-- by kk: the subterms of a term
abbrev pub subterm_table : List ℕ
subterm_table = 0 ∷ 0 ∷ 1 ∷ 2 ∷ 2 ∷ 2 ∷ 2 ∷ 0 ∷ 0 ∷ []

unfoldable pub payload_bytes : ℕ → ℕ
payload_bytes k = get_or payload_table k 0

unfoldable pub subterms : ℕ → ℕ
subterms k = get_or subterm_table k 0
