-- `stepping::take` meets its contract, by what stands at the reference: a sequence, choice or parallel that
-- no step has touched, another such term, or an entered split, whose digit names its end, one side, or both.
-- The levels left fall at each call. Assumes nothing.
use Rattle.stepping.proofs.+take.Given as goal

abbrev pub decreases-take : goal.decreases-take
decreases-take l = l.left
