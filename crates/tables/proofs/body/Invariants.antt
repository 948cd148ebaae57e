-- `tables::body` meets its contract. The loop's invariant is `Going`: what is judged of all lines is what is
-- judged of those from the cursor on, by what the loop keeps, and each way out and each turn is a law of it.
-- The measure is what is left of the text. Assumes nothing.
use Rattle.std.proofs.Common.{◌≡◌, ◌-◌, length}
use Rattle.tables.proofs.Loop.{Going}
use Rattle.tables.proofs.body.Given as goal

abbrev pub invariant-loop-frame : goal.invariant-loop-frame
invariant-loop-frame l = record {
  going : Going l.text l.fn.opening.next l.fn.opening.definitions l.fn.opening.events l.initial.table.kinds l.initial.table.payloads l.initial.table.owners l.initial.table.roots l.table.kinds l.table.payloads l.table.owners l.table.roots l.waiting l.s l.at l.line;
  after_kept : l.table.after ≡ l.initial.table.after;
}

abbrev pub decreases-loop-frame : goal.decreases-loop-frame
decreases-loop-frame l = length l.text - l.at
