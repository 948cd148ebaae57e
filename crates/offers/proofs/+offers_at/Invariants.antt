-- `offers::offers_at` meets its contract, by what is offered at each test: no cell left, a side that has not stepped,
-- Ω or ⊥, an untouched term, sides that do not fit, or the two sides of an entered choice or parallel. The cells
-- left fall at each call, since the two sides' are together fewer. Assumes nothing.
use Rattle.offers.proofs.+offers_at.Given as goal

abbrev pub decreases-offers_at : goal.decreases-offers_at
decreases-offers_at l = l.left
