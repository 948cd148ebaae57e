-- `leaves::take_leaf` meets its contract, by the kind of its term: a prefix, SKIP, STOP, a call, or
-- an internal choice. Assumes nothing.
use Rattle.leaves.proofs.Laws.{single_made, leaf_prefix, leaf_SKIP, leaf_STOP, leaf_call, leaf_chosen}
use Rattle.leaves.proofs.take_leaf.Goals as goal

pub returns-then-kind-eq-PREFIX_WORD : goal.returns-then-kind-eq-PREFIX_WORD
returns-then-kind-eq-PREFIX_WORD c =
    leaf_prefix _ _ _ _ _ _ _ _ _ _ _ _ c.word-t.ensures
    c.word-frame.ensures c.kind_of-kind.ensures
    c.if-kind-eq-PREFIX_WORD.true _ c.operand_of-event.ensures _ _ _
    c.take_prefix.ensures

pub returns-then-kind-eq-SKIP_WORD : goal.returns-then-kind-eq-SKIP_WORD
returns-then-kind-eq-SKIP_WORD c =
    let made = single_made _ _ _ _ _ _ _ _ _ (c.label.ensures.value, c.label.ensures.nodes_after) (c.draw-drawn.ensures.value, c.draw-drawn.ensures.track_after)
    _ c.own_mark.ensures _ _ _ _ _ _ _ _
    c.stand.ensures
    c.come-ended.ensures in
    leaf_SKIP _ _ _ _ _ _ _ _ _ _ _ _ c.word-t.ensures
    c.word-frame.ensures c.kind_of-kind.ensures
    c.if-kind-eq-PREFIX_WORD.false
    c.if-kind-eq-SKIP_WORD.true _ _ _ _ _ _ made c.settle.ensures

pub returns-then-kind-eq-STOP_WORD : goal.returns-then-kind-eq-STOP_WORD
returns-then-kind-eq-STOP_WORD c =
    let made = single_made _ _ _ _ _ _ _ _ _ (c.label.ensures.value, c.label.ensures.nodes_after) (c.draw-drawn.ensures.value, c.draw-drawn.ensures.track_after)
    _ c.own_mark.ensures _ _ _ _ _ _ _ _
    c.stand-then-kind-eq-STOP_WORD.ensures
    c.come.ensures in
    leaf_STOP _ _ _ _ _ _ _ _ _ _ _ _ c.word-t.ensures
    c.word-frame.ensures c.kind_of-kind.ensures
    c.if-kind-eq-PREFIX_WORD.false
    c.if-kind-eq-SKIP_WORD.false _ _ _ c.if-kind-eq-STOP_WORD.true made

pub returns-then-kind-eq-CALL_WORD : goal.returns-then-kind-eq-CALL_WORD
returns-then-kind-eq-CALL_WORD c =
    let made = single_made _ _ _ _ _ _ _ _ _ (c.label.ensures.value, c.label.ensures.nodes_after) (c.draw-drawn.ensures.value, c.draw-drawn.ensures.track_after)
    _ c.own_mark.ensures _ _ _ _ _ _ _ _
    c.stand-then-kind-eq-CALL_WORD.ensures
    c.come-then-kind-eq-CALL_WORD.ensures in
    leaf_call _ _ _ _ _ _ _ _ _ _ _ _ c.word-t.ensures
    c.word-frame.ensures c.kind_of-kind.ensures
    c.if-kind-eq-PREFIX_WORD.false
    c.if-kind-eq-SKIP_WORD.false _ _ _
    c.if-kind-eq-STOP_WORD.false _
    c.if-kind-eq-CALL_WORD.true _
    c.operand_of-root.ensures c.beyond-outer.ensures
    made

pub returns : goal.returns
returns c =
    let made = single_made _ _ _ _ _ _ _ _ _ (c.label.ensures.value, c.label.ensures.nodes_after) (c.draw-drawn.ensures.value, c.draw-drawn.ensures.track_after)
    _ c.own_mark.ensures _ _ _ _ _ _ _ _
    c.stand-2.ensures
    c.come-2.ensures in
    leaf_chosen _ _ _ _ _ _ _ _ _ _ _ _ c.word-t.ensures
    c.word-frame.ensures c.kind_of-kind.ensures
    c.if-kind-eq-PREFIX_WORD.false
    c.if-kind-eq-SKIP_WORD.false _ _ _
    c.if-kind-eq-STOP_WORD.false _
    c.if-kind-eq-CALL_WORD.false _ _ _
    c.sum.ensures
    c.second_of.ensures
    c.taken-side.ensures c.sum-2.ensures made
