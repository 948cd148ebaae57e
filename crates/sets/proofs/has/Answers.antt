-- `sets::has` meets its contract: bit `event` of the set is what `member` reads, and a set has no bit past
-- its width. Assumes nothing.
use Rattle.std.proofs.Common.{sym, refl}
use Rattle.sets.specs.EventSet.{member}
use Rattle.sets.proofs.Bits.{none_past}
use Rattle.sets.proofs.has.Goals as goal

pub returns-then-event-lt-MOST_EVENTS : goal.returns-then-event-lt-MOST_EVENTS
unfolding member
returns-then-event-lt-MOST_EVENTS c = refl

pub returns-else-event-lt-MOST_EVENTS : goal.returns-else-event-lt-MOST_EVENTS
returns-else-event-lt-MOST_EVENTS c = sym (none_past c.args.set 64 _ c.ranges.set.fits c.if-event-lt-MOST_EVENTS.false)
