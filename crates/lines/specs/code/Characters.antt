-- What the functions on characters compute whatever the characters are. `proofs/Laws.antt` shows what it is
-- where they are a line's.
use Rattle.std.specs.Prelude.{ℕ, suc, ◌-◌, List, [], ◌∷◌, ◌&&◌, length, take, drop, leb}
use Rattle.lines.specs.Line.{choose, digit}

-- how many digits a text starts with
unfoldable pub run : List ℕ → ℕ
run [] = 0
run (c ∷ cs) = choose (leb 16 (digit c)) 0 (suc (run cs))

-- the part of a text from a to e, and nothing where it has no such part
unfoldable pub part : List ℕ → ℕ → ℕ → List ℕ
part s a e = choose (leb a e && leb e (length s)) (take (e - a) (drop a s)) []
