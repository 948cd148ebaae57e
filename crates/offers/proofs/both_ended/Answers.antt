-- `offers::both_ended` meets its contract: the first side has not ended, or it goes by the second. Assumes
-- nothing.
use Rattle.std.proofs.Common.{sym, ◌∙◌}
use Rattle.offers.proofs.Returns.{both_first, both_second}
use Rattle.offers.proofs.both_ended.Goals as goal

pub returns-then-ended : goal.returns-then-ended
returns-then-ended c = both_second _ _ _ (sym c.ended.ensures ∙ c.if-ended.true) c.ended-then-ended.ensures

pub returns-else-ended : goal.returns-else-ended
returns-else-ended c = c.if-ended.false ∙ both_first _ _ (sym c.ended.ensures ∙ c.if-ended.false)
