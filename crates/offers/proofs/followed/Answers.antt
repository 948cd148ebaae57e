-- `offers::followed` meets its contract: by the sequence that the plan has, or by the frame. Assumes nothing.
use Rattle.std.proofs.Common.{ℕ, sym, ap, ◌∙◌, not, eqb, ne_eqb}
use Rattle.offers.proofs.Returns.{followed_there, followed_beyond}
use Rattle.offers.proofs.followed.Goals as goal

pub returns-then-around_of-ne0 : goal.returns-then-around_of-ne0
returns-then-around_of-ne0 c =
    ap not (ne_eqb _ _ c.if-around_of-ne0.true)
    ∙ followed_there _ _ _ _ _ (λ z. c.if-around_of-ne0.true (c.around_of.ensures ∙ z))

pub returns-else-around_of-ne0 : goal.returns-else-around_of-ne0
returns-else-around_of-ne0 c =
    ap (λ (f : ℕ). not (eqb f c.args.bound)) c.word.ensures
    ∙ followed_beyond _ _ _ _ _ (sym c.around_of.ensures ∙ c.if-around_of-ne0.false)
