-- `answers::of_refusal` meets its contract: the number is added. Assumes nothing.
use Rattle.std.proofs.Common.{◌+◌, ap}
use Rattle.answers.specs.Numbers.{of_refusal}
use Rattle.answers.proofs.of_refusal.Goals as goal

pub returns : goal.returns
unfolding of_refusal
returns c = ap (λ k. 0x10000 + k) c.from.ensures
