-- `scripts::write_digits` meets its contract. The loop's invariant: storing the digits from number i on
-- completes the array that is promised; a turn stores one of them, and none is left at the end. Assumes nothing.
use Rattle.std.proofs.Common.{◌≡◌, drop}
use Rattle.std.proofs.lemmas.List.Edits.{sets}
use Rattle.numbers.specs.code.Numbers.{read_bytes}
use Rattle.scripts.specs.Script.{digits as behind}
use Rattle.scripts.proofs.write_digits.Given as goal

abbrev pub invariant-loop-i : goal.invariant-loop-i
invariant-loop-i l = let ds = behind (read_bytes l.chars) in
    sets l.digits l.i (drop l.i ds) ≡ sets l.initial.digits 0 ds
