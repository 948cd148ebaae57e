-- `offers::first_of` meets its contract, in range and out of it. Assumes nothing.
use Rattle.offers.proofs.Returns.{first_in, first_out}
use Rattle.offers.proofs.first_of.Goals as goal

pub returns-then-t-lt-TERM_ROOM : goal.returns-then-t-lt-TERM_ROOM
returns-then-t-lt-TERM_ROOM c = first_in _ c.if-t-lt-TERM_ROOM.true

pub returns-else-t-lt-TERM_ROOM : goal.returns-else-t-lt-TERM_ROOM
returns-else-t-lt-TERM_ROOM c = first_out _ c.if-t-lt-TERM_ROOM.false
