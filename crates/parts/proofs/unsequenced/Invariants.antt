-- `parts::unsequenced` meets its contract: what stands in the term that is reached, with the levels that are left, is what
-- stands in the first one. Assumes nothing.
use Rattle.std.proofs.Common.{◌≡◌, ◌-◌}
use Rattle.offers.specs.code.Following.{levels}
use Rattle.parts.specs.code.Parts.{unsequenced}
use Rattle.parts.proofs.unsequenced.Given as goal

abbrev pub invariant-loop : goal.invariant-loop
invariant-loop l = unsequenced (levels - l.counter) l.plan l.term ≡ unsequenced levels l.plan l.t
