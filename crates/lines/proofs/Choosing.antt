-- What holds of both is what holds of the chosen one. Assumes nothing.
use Rattle.std.proofs.Common.{ℕ, ◌≤◌, Bool, true, false}
use Rattle.lines.specs.Line.{choose}

pub choose_most : (m : ℕ) (b : Bool) (x y : ℕ) → x ≤ m → y ≤ m → choose b x y ≤ m
choose_most m true x y first second = first
choose_most m false x y first second = second
