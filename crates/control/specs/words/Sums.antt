-- Counts that stop at 65,535, which is past every room.
use Rattle.std.specs.Prelude.{ℕ, ltb}
use Rattle.lines.specs.Line.{choose}

unfoldable pub capped : ℕ → ℕ
capped n = choose (ltb 65535 n) 65535 n
