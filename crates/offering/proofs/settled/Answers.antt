-- `offering::settled` meets its contract: with a sequence around, and with none. Assumes nothing.
use Rattle.offering.proofs.Returns.{settled_nested, settled_bare}
use Rattle.offering.proofs.settled.Goals as goal

pub returns-then-nested : goal.returns-then-nested
returns-then-nested c = settled_nested c.args.o _ c.if-nested.true

pub returns : goal.returns
returns c = settled_bare c.args.o _ c.if-nested.false
