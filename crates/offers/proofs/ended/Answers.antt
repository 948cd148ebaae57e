-- `offers::ended` meets its contract: a side that has not stepped, or a state. Assumes nothing.
use Rattle.std.proofs.Common.{ℕ, ap, ◌∙◌, not, eqb, eq-eqb}
use Rattle.offers.proofs.Returns.{ended_not, ended_state}
use Rattle.offers.proofs.ended.Goals as goal

pub returns-then-n-ne0 : goal.returns-then-n-ne0
returns-then-n-ne0 c = ap (λ (s : ℕ). eqb s 2) c.word.ensures ∙ ended_state _ _ c.if-n-ne0.true

pub returns-else-n-ne0 : goal.returns-else-n-ne0
returns-else-n-ne0 c = ap not (eq-eqb _ _ c.if-n-ne0.false) ∙ ended_not _ _ c.if-n-ne0.false
