-- What the functions on characters compute whatever the characters are. `proofs/Finding.antt` shows what it is where they
-- are a line's.
use Rattle.std.specs.Prelude.{ℕ, ◌+◌, List, [], ◌∷◌, eqb, Option, Some, None}
use Rattle.lines.specs.Line.{choose, LF}
use Rattle.desk_lines.specs.DeskLine.{CR}

-- where the next line begins, where the text stands from n on: behind an LF that is the first of it; none where none is
unfoldable pub behind_feed : ℕ → List ℕ → Option ℕ
behind_feed n [] = None
behind_feed n (c ∷ cs) = choose (eqb c LF) (Some (n + 1)) None

-- the same behind a line's end, LF or CR LF
unfoldable pub behind : ℕ → List ℕ → Option ℕ
behind n [] = None
behind n (c ∷ cs) = choose (eqb c LF) (Some (n + 1)) (choose (eqb c CR) (behind_feed (n + 1) cs) None)
