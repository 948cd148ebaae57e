-- Document 01, 'Lines' (Table): a set of events. Event k is bit k of the set, bit 0 the lowest of the last byte;
-- a set is the number of its bytes, whatever their count.
use Rattle.std.specs.Prelude.{ℕ, ◌/◌, ◌%◌, ◌^◌, Bool, eqb}

unfoldable pub member : ℕ → ℕ → Bool
member k x = eqb (x / 2 ^ k % 2) 1
