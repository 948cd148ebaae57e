-- `shape_rules::of_one_event` meets its contract: a test that fails settles it. Assumes nothing.
use Rattle.std.proofs.Common.{arith}
use Rattle.std.proofs.lemmas.Grind.{common_steps}
use Rattle.shape_rules.specs.code.Tests.{one_event}
use Rattle.shape_rules.proofs.of_one_event.Goals as goal
use Rattle.shape_rules.proofs.of_one_event.Goals.{then-is_event, else-is_event}

pub returns-then-is_event-2 : goal.returns-then-is_event-2
unfolding one_event
returns-then-is_event-2 c =
    elim c.if-is_event.branch [
      | then-is_event w ↦ grind (arith, common_steps)
      | else-is_event w ↦ absurd (grind (arith, common_steps))
    ]

pub returns-else-is_event-2 : goal.returns-else-is_event-2
unfolding one_event
returns-else-is_event-2 c =
    elim c.if-is_event.branch [
      | then-is_event w ↦ grind (arith, common_steps)
      | else-is_event w ↦ grind (arith, common_steps)
    ]
