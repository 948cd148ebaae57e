-- `parts::subterms` meets its contract: the sequences around it are passed, and both subterms wait. Assumes nothing.
use Rattle.parts.proofs.Returns.{term_divides}
use Rattle.parts.proofs.subterms.Goals as goal

pub returns : goal.returns
returns c =
    term_divides _ _ _ c.unsequenced-term.ensures _ _ c.first_of.ensures
    c.second_of.ensures
