-- `plans::laying::put` meets its contract, in range and out of it. Assumes nothing.
use Rattle.plans.proofs.Laid.{put_in, put_out}
use Rattle.plans.proofs.laying.put.Goals as goal

pub returns-then-t-lt-TERM_ROOM : goal.returns-then-t-lt-TERM_ROOM
returns-then-t-lt-TERM_ROOM c = put_in _ _ _ _ c.if-t-lt-TERM_ROOM.true

pub returns-else-t-lt-TERM_ROOM : goal.returns-else-t-lt-TERM_ROOM
returns-else-t-lt-TERM_ROOM c = put_out _ _ _ _ c.if-t-lt-TERM_ROOM.false
