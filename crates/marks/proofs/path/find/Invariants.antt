-- `marks::path::find` meets its contract. The loop's invariant: what is found from the term that was reached on, by the
-- digits that are left, is what is found from the root. Assumes nothing.
use Rattle.std.proofs.Common.{◌≡◌, drop}
use Rattle.numbers.specs.code.Numbers.{read_bytes}
use Rattle.marks.specs.code.Followed as of
use Rattle.marks.proofs.path.find.Given as goal

abbrev pub invariant-loop-i : goal.invariant-loop-i
invariant-loop-i l = of.find l.table.kinds l.table.after l.root (drop l.from (read_bytes l.chars)) ≡ of.find l.table.kinds l.table.after l.term (drop l.i (read_bytes l.chars))
