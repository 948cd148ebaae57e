-- `parts::of_term` meets its contract: the sequences around it are passed, and it goes by the kind: an external choice or a
-- parallel, or another. Assumes nothing.
use Rattle.std.proofs.Common.{rules}
use Rattle.parts.specs.code.Parts.{by_kind}
use Rattle.parts.proofs.Returns.{term_stands}
use Rattle.parts.proofs.of_term.Goals as goal

pub returns-then-kind-eq-EXTERNAL_WORD : goal.returns-then-kind-eq-EXTERNAL_WORD
unfolding by_kind
returns-then-kind-eq-EXTERNAL_WORD c = term_stands _ _ _ c.unsequenced-term.ensures _ _ c.kind_of-kind.ensures (search rules)

pub returns : goal.returns
unfolding by_kind
returns c = term_stands _ _ _ c.unsequenced-term.ensures _ _ c.kind_of-kind.ensures (search rules)
