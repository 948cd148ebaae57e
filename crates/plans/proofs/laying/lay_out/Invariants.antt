-- `plans::laying::lay_out` meets its contract. The loop's invariant: the plan is that of the turns so far.
-- Assumes nothing.
use Rattle.std.proofs.Common.{◌≡◌}
use Rattle.plans.specs.code.Laid.{turns}
use Rattle.plans.proofs.laying.lay_out.Given as goal

abbrev pub invariant-loop-t : goal.invariant-loop-t
invariant-loop-t l = l.plan ≡ turns l.t l.table.kinds l.table.payloads l.table.after l.table.roots
