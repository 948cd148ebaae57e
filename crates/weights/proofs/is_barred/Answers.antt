-- `weights::is_barred` meets its contract, by the event and the kind. Assumes nothing.
use Rattle.std.proofs.Common.{◌∙◌, ne_eqb}
use Rattle.weights.proofs.RuleLaws.{free_choice, free_silent, barred_visible}
use Rattle.weights.proofs.is_barred.Goals as goal

pub returns-in_default : goal.returns-in_default
returns-in_default c = free_silent _ _ _ c.in_default.not-Visible

pub returns-then-kind-eq-PARALLEL_WORD : goal.returns-then-kind-eq-PARALLEL_WORD
returns-then-kind-eq-PARALLEL_WORD c = c.has.ensures ∙ barred_visible _ c.if-kind-eq-PARALLEL_WORD.true _ _ _ c.in-Visible.is

pub returns-else-kind-eq-PARALLEL_WORD : goal.returns-else-kind-eq-PARALLEL_WORD
returns-else-kind-eq-PARALLEL_WORD c =
    ne_eqb _ _ c.if-kind-eq-PARALLEL_WORD.false ∙ free_choice _ c.if-kind-eq-PARALLEL_WORD.false _ _
