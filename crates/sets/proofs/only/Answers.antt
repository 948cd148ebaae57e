-- `sets::only` meets its contract: within the width, 1 shifted is a power of 2, which has that bit alone; past
-- it the set is 0, which has no bit. Assumes nothing.
use Rattle.std.proofs.Common.{ap, ◌∙◌, lt-ltb, le-ltb}
use Rattle.sets.specs.EventSet.{member}
use Rattle.sets.proofs.Bits.{none_in_zero, one_shifted, member_power}
use Rattle.sets.proofs.only.Goals as goal

pub returns-then-event-lt-MOST_EVENTS : goal.returns-then-event-lt-MOST_EVENTS
returns-then-event-lt-MOST_EVENTS c k =
    let event = c.args.event in
    simp (lt-ltb event 64 c.if-event-lt-MOST_EVENTS.true)
    (ap (member k) (one_shifted event 64 c.if-event-lt-MOST_EVENTS.true) ∙ member_power k event)

pub returns-else-event-lt-MOST_EVENTS : goal.returns-else-event-lt-MOST_EVENTS
returns-else-event-lt-MOST_EVENTS c k = simp (le-ltb c.args.event 64 c.if-event-lt-MOST_EVENTS.false) (none_in_zero k)
