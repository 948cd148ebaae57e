-- `node_lines::node_refusal` meets its contract: each test stands for one of the spec's. Assumes nothing.
use Rattle.lines.specs.Refusal.{number, told}
use Rattle.node_lines.proofs.Laws.{node_tag, node_length, path_past, definition_past, node_fits}
use Rattle.node_lines.proofs.node_refusal.Goals as goal

pub returns-then-byte-ne-NODE_FRAME : goal.returns-then-byte-ne-NODE_FRAME
unfolding number told
returns-then-byte-ne-NODE_FRAME c = λ n. node_tag _ _ n c.byte.ensures c.if-byte-ne-NODE_FRAME.true

pub returns-then-count-length : goal.returns-then-count-length
unfolding number told
returns-then-count-length c = λ n. node_length _ _ n c.byte.ensures c.byte_at-length.ensures.value c.if-count-length.true

pub returns-then-length-gt-PATH_ROOM : goal.returns-then-length-gt-PATH_ROOM
unfolding number told
returns-then-length-gt-PATH_ROOM c =
    λ n.
    path_past _ _ n c.byte.ensures c.byte_at-length.ensures.value c.if-byte-ne-NODE_FRAME.false
    c.if-count-length.false c.if-length-gt-PATH_ROOM.true

pub returns-then-definitions-byte_at : goal.returns-then-definitions-byte_at
unfolding number told
returns-then-definitions-byte_at c =
    λ n.
    definition_past _ _ n c.byte.ensures c.byte_at-length.ensures.value
    c.if-byte-ne-NODE_FRAME.false
    c.if-count-length.false c.if-length-gt-PATH_ROOM.false
    c.byte_at.ensures.value c.if-definitions-byte_at.true

pub returns : goal.returns
unfolding number told
returns c =
    λ n.
    node_fits _ _ n c.byte.ensures c.byte_at-length.ensures.value c.if-byte-ne-NODE_FRAME.false
    c.if-count-length.false c.if-length-gt-PATH_ROOM.false
    c.byte_at.ensures.value c.if-definitions-byte_at.false
