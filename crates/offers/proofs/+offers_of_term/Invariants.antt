-- `offers::offers_of_term` meets its contract, by what a term offers at each test: no level left, a kind whose
-- offers are its own, subterms out of order, a sequence, or two sides. The levels left fall at each call. Assumes
-- nothing.
use Rattle.offers.proofs.+offers_of_term.Given as goal

abbrev pub decreases-offers_of_term : goal.decreases-offers_of_term
decreases-offers_of_term l = l.left
