-- A process with other reference numbers: the places, the choices made and the sides that were entered stay.
use Rattle.std.specs.Prelude.{ℕ}
use Rattle.std.proofs.Math.Option.{Option, none, some}
use Rattle.rules.specs.Process.{Process, leaf, prefix, internal, split, sequence, Ω, ⊥'}

unfoldable pub renamed_side : (ℕ → ℕ) → Option ℕ → Option ℕ
renamed_side φ none = none
renamed_side φ (some n) = some (φ n)

unfoldable pub renamed : (ℕ → ℕ) → Process → Process
renamed φ (leaf w l) = leaf w l
renamed φ (prefix w e P) = prefix w e (renamed φ P)
renamed φ (internal w P Q) = internal w (renamed φ P) (renamed φ Q)
renamed φ (split w k m n P Q) = split w k (renamed_side φ m) (renamed_side φ n) (renamed φ P) (renamed φ Q)
renamed φ (sequence w b P Q) = sequence w b (renamed φ P) (renamed φ Q)
renamed φ Ω = Ω
renamed φ ⊥' = ⊥'
