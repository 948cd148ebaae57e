-- `offering::own` meets its contract, by the kind. Assumes nothing.
use Rattle.std.proofs.Common.{◌∙◌}
use Rattle.offering.proofs.Returns.{own_event, own_tick, own_stop, own_tau}
use Rattle.offering.proofs.own.Goals as goal

pub returns-then-kind-eq-PREFIX_WORD : goal.returns-then-kind-eq-PREFIX_WORD
returns-then-kind-eq-PREFIX_WORD c = own_event _ _ c.if-kind-eq-PREFIX_WORD.true _ c.only.ensures

pub returns-then-kind-eq-SKIP_WORD : goal.returns-then-kind-eq-SKIP_WORD
returns-then-kind-eq-SKIP_WORD c = c.unseen.ensures ∙ own_tick _ _ c.if-kind-eq-PREFIX_WORD.false c.if-kind-eq-SKIP_WORD.true

pub returns-then-kind-eq-STOP_WORD : goal.returns-then-kind-eq-STOP_WORD
returns-then-kind-eq-STOP_WORD c = own_stop _ _ c.if-kind-eq-PREFIX_WORD.false c.if-kind-eq-SKIP_WORD.false c.if-kind-eq-STOP_WORD.true

pub returns : goal.returns
returns c =
    c.unseen-2.ensures
    ∙ own_tau _ _ c.if-kind-eq-PREFIX_WORD.false c.if-kind-eq-SKIP_WORD.false c.if-kind-eq-STOP_WORD.false
