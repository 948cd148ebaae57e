-- `offers::in_order` meets its contract: the first is not before the second, or it goes by the end. Assumes nothing.
use Rattle.std.proofs.Common.{◌∙◌, le-ltb}
use Rattle.offers.proofs.Returns.{order_not, order_first}
use Rattle.offers.proofs.in_order.Goals as goal

pub returns-then-first-second : goal.returns-then-first-second
returns-then-first-second c = order_first _ _ _ c.if-first-second.true

pub returns-else-first-second : goal.returns-else-first-second
returns-else-first-second c = le-ltb _ _ c.if-first-second.false ∙ order_not _ _ _ c.if-first-second.false
