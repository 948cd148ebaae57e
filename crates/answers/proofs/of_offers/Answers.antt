-- `answers::of_offers` meets its contract: each arm knows whether τ and ✓ are offered. Assumes nothing.
use Rattle.std.proofs.Common.{ap₂, sym}
use Rattle.answers.specs.Numbers.{of_offers}
use Rattle.answers.proofs.of_offers.Goals as goal

pub returns-in-true-true : goal.returns-in-true-true
unfolding of_offers
returns-in-true-true c = sym (ap₂ of_offers c.in-true-true.is-0 c.in-true-true.is-1)

pub returns-in-true-false : goal.returns-in-true-false
unfolding of_offers
returns-in-true-false c = sym (ap₂ of_offers c.in-true-false.is-0 c.in-true-false.is-1)

pub returns-in-false-true : goal.returns-in-false-true
unfolding of_offers
returns-in-false-true c = sym (ap₂ of_offers c.in-false-true.is-0 c.in-false-true.is-1)

pub returns-in-false-false : goal.returns-in-false-false
unfolding of_offers
returns-in-false-false c = sym (ap₂ of_offers c.in-false-false.is-0 c.in-false-false.is-1)
