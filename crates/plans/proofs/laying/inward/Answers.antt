-- `plans::laying::inward` meets its contract, by the kind. Assumes nothing.
use Rattle.std.proofs.Common.{◌∙◌}
use Rattle.plans.proofs.Laid.{inward_sequence, inward_others}
use Rattle.plans.proofs.laying.inward.Goals as goal

pub returns-then-kind-eq-SEQUENCE : goal.returns-then-kind-eq-SEQUENCE
returns-then-kind-eq-SEQUENCE c = inward_sequence _ _ _ c.if-kind-eq-SEQUENCE.true

pub returns-else-kind-eq-SEQUENCE : goal.returns-else-kind-eq-SEQUENCE
returns-else-kind-eq-SEQUENCE c = c.through.ensures ∙ inward_others _ _ _ c.if-kind-eq-SEQUENCE.false
