-- Texts as document 01 writes its case A, with `/` for LF, and with `;` for CR: how the cases of the crates above are
-- typed. Assumes nothing.
use Rattle.std.proofs.Common.{ℕ, List, [], ◌∷◌, eqb}
use Prim.Native.Char.{code}
use Prim.Native.String.{String, [] as no-character, ◌∷◌ as ◌before◌}
use Rattle.lines.specs.Line.{choose, LF}

-- the character that one stands for, and the characters of a text
abbrev meant : ℕ → ℕ
meant c = choose (eqb c 47) LF (choose (eqb c 59) 13 c)

unfoldable pub typed : String → List ℕ
typed no-character = []
typed (c before s) = meant (code c) ∷ typed s
