-- `counting::over_room` meets its contract: the first room that a test finds too small gives the
-- number. Assumes nothing.
use Rattle.lines.specs.Refusal.{number, told}
use Rattle.counting.proofs.Laws.{cells_over, nodes_over, arcs_over, meetings_over, none_over}
use Rattle.counting.proofs.over_room.Goals as goal

pub returns-then-w-gt-CELL_ROOM : goal.returns-then-w-gt-CELL_ROOM
unfolding told number
returns-then-w-gt-CELL_ROOM c = cells_over _ _ c.if-w-gt-CELL_ROOM.true

pub returns-then-sum-gt-NODE_ROOM : goal.returns-then-sum-gt-NODE_ROOM
unfolding told number
returns-then-sum-gt-NODE_ROOM c =
    nodes_over _ _ c.if-w-gt-CELL_ROOM.false _ _ c.counter.ensures
    c.sum.ensures c.if-sum-gt-NODE_ROOM.true

pub returns-then-sum-gt-ARC_ROOM : goal.returns-then-sum-gt-ARC_ROOM
unfolding told number
returns-then-sum-gt-ARC_ROOM c =
    arcs_over _ _ c.if-w-gt-CELL_ROOM.false _ _ c.counter.ensures
    c.sum.ensures c.if-sum-gt-NODE_ROOM.false _ _ c.counter-2.ensures
    c.sum-2.ensures c.if-sum-gt-ARC_ROOM.true

pub returns-then-sum-gt-MEETING_ROOM : goal.returns-then-sum-gt-MEETING_ROOM
unfolding told number
returns-then-sum-gt-MEETING_ROOM c =
    meetings_over _ _ c.if-w-gt-CELL_ROOM.false _ _ c.counter.ensures
    c.sum.ensures c.if-sum-gt-NODE_ROOM.false _ _ c.counter-2.ensures
    c.sum-2.ensures c.if-sum-gt-ARC_ROOM.false _ _ c.counter-3.ensures
    c.sum-3.ensures c.if-sum-gt-MEETING_ROOM.true

pub returns : goal.returns
unfolding told
returns c =
    none_over _ _ c.if-w-gt-CELL_ROOM.false _ _ c.counter.ensures
    c.sum.ensures c.if-sum-gt-NODE_ROOM.false _ _ c.counter-2.ensures
    c.sum-2.ensures c.if-sum-gt-ARC_ROOM.false _ _ c.counter-3.ensures
    c.sum-3.ensures c.if-sum-gt-MEETING_ROOM.false
