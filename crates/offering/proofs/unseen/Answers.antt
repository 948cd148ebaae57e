-- `offering::unseen` meets its contract: 0 has no event. Assumes nothing.
use Rattle.offering.proofs.Returns.{no_events}
use Rattle.offering.proofs.unseen.Goals as goal

pub returns : goal.returns
returns c = no_events c.args.tau c.args.tick
