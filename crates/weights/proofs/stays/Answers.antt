-- `weights::stays` meets its contract, by the kind and the event. Assumes nothing.
use Rattle.std.proofs.Common.{◌∙◌, eq-eqb}
use Rattle.weights.proofs.RuleLaws.{stays_parallel, stays_tau, choice_ends}
use Rattle.weights.proofs.stays.Goals as goal

pub returns-then-kind-eq-PARALLEL_WORD : goal.returns-then-kind-eq-PARALLEL_WORD
returns-then-kind-eq-PARALLEL_WORD c =
    let parallel = c.if-kind-eq-PARALLEL_WORD.true in
    eq-eqb _ _ parallel ∙ stays_parallel _ parallel _

pub returns-in-Tau : goal.returns-in-Tau
returns-in-Tau c = stays_tau _ _ c.in-Tau.is

pub returns-in_default : goal.returns-in_default
returns-in_default c = choice_ends _ c.if-kind-eq-PARALLEL_WORD.false _ c.in_default.not-Tau
