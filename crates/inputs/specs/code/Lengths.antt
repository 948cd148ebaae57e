-- What the functions on bytes compute whatever the bytes are. `proofs/Cutting.antt` shows what it is of a
-- text's lines.
use Rattle.std.specs.Prelude.{ℕ, suc, List, [], ◌∷◌, eqb}
use Rattle.lines.specs.Line.{choose, LF}

-- how many bytes of a text run through its first LF, all where it has none
unfoldable pub line_length : List ℕ → ℕ
line_length [] = 0
line_length (c ∷ cs) = suc (choose (eqb c LF) 0 (line_length cs))
