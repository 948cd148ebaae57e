use Rattle.std.proofs.Common.{◌∙◌, rules, arith}
use Rattle.plans.specs.code.Laid.{turns}
use Rattle.plans.proofs.Laid.{turn_more, turns_all}
use Rattle.plans.proofs.laying.lay_out.Goals as goal

pub loop-t-init : goal.loop-t-init
unfolding turns
loop-t-init c = search rules

pub loop-t-preserved : goal.loop-t-preserved
loop-t-preserved c =
    turn_more _ _ _ _ _ _ _ _ _ c.operand_to-operand.ensures c.second_to-second.ensures c.loop-t.invariant
    c.lay_term.ensures

pub returns : goal.returns
returns c = c.loop-t.invariant ∙ turns_all _ _ _ _ _ _ (omega arith)
