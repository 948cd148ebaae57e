-- `weights::agree` meets its contract, by both events. Assumes nothing.
use Rattle.std.proofs.Common.{◌∙◌, ne_eqb}
use Rattle.weights.proofs.RuleLaws.{parts_silent, parts_across, parts_apart, agree_on}
use Rattle.weights.proofs.agree.Goals as goal

pub returns-then-a-b : goal.returns-then-a-b
returns-then-a-b c =
    let both = c.in-Visible-Visible in
    c.is_barred.ensures ∙ agree_on _ _ _ _ _ _ both.is-0 both.is-1 c.if-a-b.true

pub returns-else-a-b : goal.returns-else-a-b
returns-else-a-b c =
    let both = c.in-Visible-Visible in
    ne_eqb _ _ c.if-a-b.false ∙ parts_apart _ _ _ _ _ _ both.is-0 both.is-1 c.if-a-b.false

pub returns-in_default : goal.returns-in_default
returns-in_default c = parts_across _ _ _ _ _ c.in_default.is-0 c.in_default.not-Visible-1

pub returns-in_default-2 : goal.returns-in_default-2
returns-in_default-2 c = parts_silent _ _ _ _ c.in_default.not-Visible-0
