-- `inputs::starts_1f` meets its contract: the pattern asks of the first two bytes what the definition does. Assumes nothing.
use Rattle.std.proofs.Common.{◌∙◌, arith}
use Rattle.std.proofs.lemmas.Grind.{common_steps}
use Rattle.inputs.proofs.Cutting.{starts_short, starts_told}
use Rattle.inputs.proofs.starts_1f.Goals as goal

pub returns-in-49 : goal.returns-in-49
returns-in-49 c = grind (arith, common_steps) ∙ starts_told _ c.in-49.len_at_least

pub returns-in_default : goal.returns-in_default
returns-in_default c = starts_short _ c.in_default.len_below

pub returns-in_default-2 : goal.returns-in_default-2
returns-in_default-2 c = grind (arith, common_steps) ∙ starts_told _ c.in_default.len_at_least

pub returns-in_default-3 : goal.returns-in_default-3
returns-in_default-3 c = grind (arith, common_steps) ∙ starts_told _ c.in_default.len_at_least
