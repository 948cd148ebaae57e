-- `filling::last` meets its contract: no others wait, or the last of them is read. Assumes nothing.
use Rattle.std.proofs.Common.{◌∙◌}
use Rattle.filling.proofs.Taken.{topmost_none, topmost_last}
use Rattle.filling.proofs.last.Goals as goal

pub returns-then-others-eq0 : goal.returns-then-others-eq0
returns-then-others-eq0 c = topmost_none _ _ c.if-others-eq0.true

pub returns-else-others-eq0 : goal.returns-else-others-eq0
returns-else-others-eq0 c = c.from.ensures ∙ topmost_last _ _ c.if-others-eq0.false
