-- `looking::inside_of` meets its contract, by the kind. Assumes nothing.
use Rattle.std.proofs.Common.{rules}
use Rattle.looking.specs.code.Looking.{inside}
use Rattle.looking.proofs.inside_of.Goals as goal

pub returns-then-kind-eq-PARALLEL_WORD : goal.returns-then-kind-eq-PARALLEL_WORD
unfolding inside
returns-then-kind-eq-PARALLEL_WORD c = search rules

pub returns-else-kind-eq-PARALLEL_WORD : goal.returns-else-kind-eq-PARALLEL_WORD
unfolding inside
returns-else-kind-eq-PARALLEL_WORD c = search rules
