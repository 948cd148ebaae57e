-- `looking::is_split` meets its contract, by the kind. Assumes nothing.
use Rattle.std.proofs.Common.{rules}
use Rattle.looking.specs.code.Looking.{is_split}
use Rattle.looking.proofs.is_split.Goals as goal

pub returns-then-kind-eq-EXTERNAL_WORD : goal.returns-then-kind-eq-EXTERNAL_WORD
unfolding is_split
returns-then-kind-eq-EXTERNAL_WORD c = search rules

pub returns-else-kind-eq-EXTERNAL_WORD : goal.returns-else-kind-eq-EXTERNAL_WORD
unfolding is_split
returns-else-kind-eq-EXTERNAL_WORD c = search rules
