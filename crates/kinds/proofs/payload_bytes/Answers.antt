-- `kinds::payload_bytes` meets its contract: the constant array is the list of the definition, which has 0 past its end. Assumes
-- nothing.
use Rattle.std.proofs.Common.{arith}
use Rattle.std.proofs.lemmas.Grind.{common_steps}
use Rattle.kinds.specs.Kind.{payload_bytes}
use Rattle.kinds.proofs.payload_bytes.Goals as goal

pub returns : goal.returns
unfolding payload_bytes
returns c = grind (arith, common_steps)
