-- `weighing::weigh_term` meets its contract, by what a term weighs at each test: out of levels, a sequence,
-- a leaf, a digit that names no side, one side, or both. The levels left fall at each call. Assumes nothing.
use Rattle.weighing.proofs.+weigh_term.Given as goal

abbrev pub decreases-weigh_term : goal.decreases-weigh_term
decreases-weigh_term l = l.left
