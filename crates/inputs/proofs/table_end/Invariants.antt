-- `inputs::table_end` meets its contract. The loop's invariant: the table's text is what was passed and the
-- table's text of the rest; a line that does not start `1f` leaves that so. The measure is what is left of the
-- text. Assumes nothing.
use Rattle.std.proofs.Common.{◌≤◌, ◌-◌, ◌+◌, ◌≡◌, length, drop}
use Rattle.lines.specs.Line.{lines}
use Rattle.inputs.specs.Cut.{table_length}
use Rattle.inputs.proofs.table_end.Given as goal

abbrev pub invariant-loop-at : goal.invariant-loop-at
invariant-loop-at l = (l.at ≤ length l.text) × (l.at + table_length (lines (drop l.at l.text)) ≡ table_length (lines l.text))

abbrev pub decreases-loop-at : goal.decreases-loop-at
decreases-loop-at l = length l.text - l.at
