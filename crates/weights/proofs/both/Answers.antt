-- `weights::both` meets its contract, by whether each side has a weight and whether their events
-- agree. Assumes nothing.
use Rattle.std.proofs.Common.{sym, ◌∙◌}
use Rattle.weights.proofs.RuleLaws.{both_nothing, both_half, both_apart, both_meet}
use Rattle.weights.proofs.both.Goals as goal

pub returns-in_err-l : goal.returns-in_err-l
returns-in_err-l c = c.from_residual.ensures ∙ both_nothing _ _ _ _ _ _ _ c.in_err-l.was

pub returns-in_err-r : goal.returns-in_err-r
returns-in_err-r c =
    c.from_residual-in_err-r.ensures ∙ both_half _ _ _ _ _ _ _ _ c.in_ok-l.was c.in_err-r.was

pub returns-then-not-agree : goal.returns-then-not-agree
returns-then-not-agree c =
    let apart = sym c.agree.ensures ∙ c.if-not-agree.true in
    both_apart _ _ _ _ _ _ _ _ c.in_ok-l.was _ c.in_ok-r.was apart

pub returns : goal.returns
returns c =
    let met = sym c.agree.ensures ∙ c.if-not-agree.false in
    both_meet _ _ _ _ _ _ _ _ c.in_ok-l.was _ c.in_ok-r.was
    met _ _ _ _ _ _ _ _ _ _ c.less.ensures
    c.less-rest.ensures c.sum.ensures c.sum-2.ensures
    c.sum-3.ensures c.sum-4.ensures
    c.sum-5.ensures c.product.ensures c.sum-6.ensures
    c.sum-7.ensures
