-- `filling::begin` meets its contract: its record is the one of the definition. Assumes nothing.
use Rattle.std.proofs.Common.{refl}
use Rattle.filling.specs.code.Taking.{started}
use Rattle.filling.proofs.begin.Goals as goal

pub returns : goal.returns
unfolding started
returns c = refl
