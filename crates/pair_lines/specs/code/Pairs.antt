-- What the pairs' lines come to, whatever they are handed.
use Rattle.std.specs.Prelude.{ℕ, List, drop}
use Rattle.lines.specs.Line.{choose, lines}
use Rattle.rules.specs.Track.{Pair}
use Rattle.graphs.specs.Parsed.{pair_at, formed, ends_below, unless}
use Rattle.opening.specs.code.Phases.{Told, lines_read}

-- the number that a line meets where a pair of first byte c is due: 2 for another frame or length, 3 where an end is not
-- below the node count
unfoldable pub pair_refusal : ℕ → ℕ → List ℕ → ℕ
pair_refusal n c bs = choose (formed c 5 bs) (unless (ends_below n (pair_at bs))) 2

-- the lines of m pairs of first byte c, in a track of n nodes: line k and those behind it
abbrev pub pairs_read : ℕ → ℕ → ℕ → ℕ → List ℕ → ℕ → Told Pair
pairs_read c n m k text at = lines_read (pair_refusal n c) pair_at m k at (lines (drop at text))
