-- `numbers::number` meets its contract. The loop's invariant: what was read, and then the characters that are left, make the
-- number of all the characters. Assumes nothing.
use Rattle.std.proofs.Common.{◌≡◌}
use Rattle.std.specs.Slice.Iter.{chunks_exact_rest, chunks_exact_size}
use Rattle.numbers.specs.code.Numbers.{number_of}
use Rattle.numbers.proofs.number.Given as goal

abbrev pub invariant-loop-pair : goal.invariant-loop-pair
invariant-loop-pair l = record {
  in_pairs : chunks_exact_size l.pair-iterator ≡ 2;
  left : number_of l.number (chunks_exact_rest l.pair-iterator) ≡ number_of 0 l.chars;
}
