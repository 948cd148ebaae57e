-- `drawing::event_node` meets its contract, by whether there is room for so many. Assumes nothing.
use Rattle.drawing.proofs.Laws.{node_read, node_past}
use Rattle.drawing.proofs.event_node.Goals as goal

pub returns-then-i-lt-NODE_ROOM : goal.returns-then-i-lt-NODE_ROOM
returns-then-i-lt-NODE_ROOM c = node_read _ _ c.if-i-lt-NODE_ROOM.true _ c.track_word.ensures

pub returns-else-i-lt-NODE_ROOM : goal.returns-else-i-lt-NODE_ROOM
returns-else-i-lt-NODE_ROOM c = node_past _ _ c.if-i-lt-NODE_ROOM.false
