-- `numbers::byte_of` meets its contract: its two calls give the values that the definition has. Assumes nothing.
use Rattle.std.proofs.Common.{ℕ, ◌+◌, ◌*◌, ◌%◌, ap₂}
use Rattle.numbers.proofs.byte_of.Goals as goal

pub returns : goal.returns
returns c = ap₂ (λ (h l : ℕ). h % 16 * 16 + l % 16) c.value_of.ensures c.value_of-2.ensures
