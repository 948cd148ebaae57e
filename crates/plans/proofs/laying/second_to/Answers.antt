-- `plans::laying::second_to` meets its contract, by how many subterms there are. Assumes nothing.
use Rattle.std.proofs.Common.{◌∙◌}
use Rattle.plans.proofs.Laid.{second_two, second_none}
use Rattle.plans.proofs.laying.second_to.Goals as goal

pub returns-then-subterms-eq2 : goal.returns-then-subterms-eq2
returns-then-subterms-eq2 c = c.after_word.ensures ∙ second_two _ _ _ _ c.subterms.ensures c.if-subterms-eq2.true

pub returns-else-subterms-eq2 : goal.returns-else-subterms-eq2
returns-else-subterms-eq2 c = second_none _ _ _ _ c.subterms.ensures c.if-subterms-eq2.false
