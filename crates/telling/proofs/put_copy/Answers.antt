-- `telling::put_copy` meets its contract: the characters are put as far as the slice goes. Assumes nothing.
use Rattle.telling.proofs.Laws.{copy_put, none_put}
use Rattle.telling.proofs.put_copy.Goals as goal

pub returns-then-from-room : goal.returns-then-from-room
returns-then-from-room c =
    copy_put _ _ _ c.requires.0 _ c.if-from-room.true c.min-room.ensures c.copy_from_slice.ensures.after

pub returns-else-from-room : goal.returns-else-from-room
returns-else-from-room c = none_put _ _ _ c.requires.0 (rw c.min-room.ensures at c.if-from-room.false)
