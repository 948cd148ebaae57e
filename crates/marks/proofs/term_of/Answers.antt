-- `marks::term_of` meets its contract: below 2 nothing is left. Assumes nothing.
use Rattle.marks.specs.words.Mark.{term_of}
use Rattle.marks.proofs.term_of.Goals as goal

pub returns : goal.returns
unfolding term_of
returns c = rw c.saturating_sub.ensures
