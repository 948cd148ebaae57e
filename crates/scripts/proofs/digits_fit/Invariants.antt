-- `scripts::digits_fit` meets its contract. The loop's invariant: all the digits are in range
-- exactly where those from byte k on are; each test settles byte k. Assumes nothing.
use Rattle.std.proofs.Common.{◌≡◌, drop}
use Rattle.numbers.specs.code.Numbers.{read_bytes}
use Rattle.scripts.specs.Script.{digits, all_digits}
use Rattle.scripts.proofs.digits_fit.Given as goal

abbrev pub invariant-loop-k : goal.invariant-loop-k
invariant-loop-k l = all_digits (drop l.k (read_bytes l.chars)) ≡ all_digits (digits (read_bytes l.chars))
