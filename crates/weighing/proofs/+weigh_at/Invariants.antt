-- `weighing::weigh_at` meets its contract, by what stands at the reference: nothing yet, a term that no step
-- has touched, an end, or an entered split, whose digit names its end, no side, one side, or both. The levels
-- left fall at each call. Assumes nothing.
use Rattle.weighing.proofs.+weigh_at.Given as goal

abbrev pub decreases-weigh_at : goal.decreases-weigh_at
decreases-weigh_at l = l.left
