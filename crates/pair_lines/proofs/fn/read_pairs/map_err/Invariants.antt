-- The closure of `pair_lines::read_pairs` tells a refusal at the line. Assumes nothing.
use Rattle.std.specs.Prelude.{◌≡◌}
use Rattle.pair_lines.proofs.fn.read_pairs.map_err.Given as goal

abbrev pub ensures : goal.ensures
ensures l r = (r.refusal ≡ l.refusal) × (r.line ≡ l.line)
