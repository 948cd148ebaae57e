-- `saving::take_marks` meets its contract. The loop's invariant: the column has the marks of the references in
-- front. Assumes nothing.
use Rattle.std.specs.Prelude.{◌≡◌}
use Rattle.walks.specs.code.Walked.{laid}
use Rattle.saving.specs.code.Saving.{marks_from}
use Rattle.saving.proofs.take_marks.Given as goal

abbrev pub invariant-loop-n : goal.invariant-loop-n
invariant-loop-n l = l.column ≡ laid (marks_from l.nodes 0 l.n)
