-- `weights::one` meets its contract, by whether there is a weight, whether the event is barred, and
-- whether the split stays. Assumes nothing.
use Rattle.std.proofs.Common.{sym, ◌∙◌}
use Rattle.weights.specs.code.Rules.{resized}
use Rattle.weights.proofs.RuleLaws.{one_nothing, one_barred, one_stays, one_resolves}
use Rattle.weights.proofs.one.Goals as goal

pub returns-in_err-w : goal.returns-in_err-w
returns-in_err-w c = c.from_residual.ensures ∙ one_nothing _ _ _ _ _ _ _ c.in_err-w.was

pub returns-then-is_barred : goal.returns-then-is_barred
returns-then-is_barred c =
    let bars = sym c.is_barred.ensures ∙ c.if-is_barred.true in
    one_barred _ _ _ _ _ _ _ _ c.in_ok-w.was bars

pub returns-then-stays : goal.returns-then-stays
unfolding resized
returns-then-stays c =
    let free = sym c.is_barred.ensures ∙ c.if-is_barred.false in
    let staying = sym c.stays.ensures ∙ c.if-stays.true in
    one_stays _ _ _ _ _ _ _ _ c.in_ok-w.was free staying _ _ _
    c.less.ensures c.sum-size.ensures c.shown-event.ensures

pub returns : goal.returns
unfolding resized
returns c =
    let free = sym c.is_barred.ensures ∙ c.if-is_barred.false in
    let going = sym c.stays.ensures ∙ c.if-stays.false in
    one_resolves _ _ _ _ _ _ _ _ c.in_ok-w.was free going _ _ _ _ _
    c.less-2.ensures c.less-3.ensures c.less-rest.ensures
    c.sum-size-2.ensures c.settled.ensures
