-- `links::Work::new` meets its contract: its graph is one of no node, and the rest is 0. Assumes nothing.
use Rattle.std.proofs.Common.{refl}
use Rattle.links.proofs.Work.new.Goals as goal

pub returns : goal.returns
returns c = rw c.new.ensures refl
