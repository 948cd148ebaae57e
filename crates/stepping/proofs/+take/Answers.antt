use Rattle.control.proofs.Sums.{one_more}
use Rattle.looking.proofs.LookLaws.{side_few}
use Rattle.stepping.proofs.Laws.{take_spent, take_sequence, take_split, take_whole, take_the_end}
use Rattle.stepping.proofs.Laws.{take_one, take_both}
use Rattle.std.proofs.Common.{arith}
use Rattle.stepping.proofs.+take.Goals as goal

pub returns-then-left-eq0 : goal.returns-then-left-eq0
returns-then-left-eq0 t c = take_spent _ _ _ _ _ _ _ _ _ _ _ c.if-left-eq0.true _ c.come.ensures

pub returns-then-kind-eq-SEQUENCE_WORD : goal.returns-then-kind-eq-SEQUENCE_WORD
returns-then-kind-eq-SEQUENCE_WORD t c =
    take_sequence _ _ _ _ _ _ _ _ _ _ _ _ _ _ _ _
    (one_more _ c.if-left-eq0.false)
    c.word-t.ensures
    c.kind_of-kind.ensures
    c.digit_at-digit.ensures c.word.ensures c.if-word-eq-UNTOUCHED.true
    _ _ _ c.if-kind-eq-SEQUENCE_WORD.true _ _ _
    c.sum.ensures
    c.put.ensures c.sum-larger.ensures
    c.take.ensures

pub returns-then-is_split : goal.returns-then-is_split
returns-then-is_split t c =
    take_split _ _ _ _ _ _ _ _ _ _ _ _ _ _ _ _
    (one_more _ c.if-left-eq0.false)
    c.word-t.ensures
    c.kind_of-kind.ensures
    c.digit_at-digit.ensures c.word.ensures c.if-word-eq-UNTOUCHED.true
    _ _ _ c.if-kind-eq-SEQUENCE_WORD.false _
    c.is_split.ensures
    c.if-is_split.true _ _ _
    (c.enter-entered.ensures.value, c.enter-entered.ensures.nodes_after) c.sum-larger-then-is_split.ensures
    c.take-then-is_split.ensures

pub returns-then-word-eq-UNTOUCHED : goal.returns-then-word-eq-UNTOUCHED
returns-then-word-eq-UNTOUCHED t c =
    take_whole _ _ _ _ _ _ _ _ _ _ _ _ _ _ _ _
    (one_more _ c.if-left-eq0.false)
    c.word-t.ensures
    c.kind_of-kind.ensures
    c.digit_at-digit.ensures c.word.ensures c.if-word-eq-UNTOUCHED.true
    _ _ _ c.if-kind-eq-SEQUENCE_WORD.false _
    c.is_split.ensures c.if-is_split.false
    c.take_leaf.ensures

pub returns-then-digit-eq4 : goal.returns-then-digit-eq4
returns-then-digit-eq4 t c =
    take_the_end _ _ _ _ _ _ _ _ _ _ _ _ _ _ _ _
    (one_more _ c.if-left-eq0.false)
    c.word-t.ensures
    c.kind_of-kind.ensures
    c.digit_at-digit.ensures c.word.ensures c.if-word-eq-UNTOUCHED.false
    c.if-digit-eq4.true _ _ _ c.take_end.ensures

pub overflow_add-side : goal.overflow_add-side
overflow_add-side t c = omega (arith, side_few _ _ c.taken-side.ensures)

pub word-own-requires : goal.word-own-requires
word-own-requires t c = omega (arith, side_few _ _ c.taken-side.ensures)

pub overflow_sub-side : goal.overflow_sub-side
overflow_sub-side t c = omega (arith, side_few _ _ c.taken-side.ensures)

pub word-other-requires : goal.word-other-requires
word-other-requires t c = omega (arith, side_few _ _ c.taken-side.ensures)

pub enter_side-drawn-requires : goal.enter_side-drawn-requires
enter_side-drawn-requires t c =
    (side_few _ _
    c.taken-side.ensures).1

pub overflow_add-side-2 : goal.overflow_add-side-2
overflow_add-side-2 t c = omega (arith, side_few _ _ c.taken-side.ensures)

pub word-reference-requires : goal.word-reference-requires
word-reference-requires t c = omega (arith, side_few _ _ c.taken-side.ensures)

pub close_one-requires : goal.close_one-requires
close_one-requires t c = (side_few _ _ c.taken-side.ensures).1

pub returns-then-digit-ne3 : goal.returns-then-digit-ne3
returns-then-digit-ne3 t c =
    take_one _ _ _ _ _ _ _ _ _ _ _ _ _ _ _ _
    (one_more _ c.if-left-eq0.false)
    c.word-t.ensures
    c.kind_of-kind.ensures
    c.digit_at-digit.ensures c.word.ensures c.if-word-eq-UNTOUCHED.false
    c.if-digit-eq4.false _ _ _ _ _ _ _ _ _
    c.word-2.ensures c.inside_of-inside.ensures c.taken-side.ensures
    c.word-own.ensures
    c.word-other.ensures
    c.second_of-second.ensures
    c.sum-2.ensures
    c.taken-subterm.ensures c.sum-next.ensures _ _ _
    _ _ _ _ (c.enter_side-drawn.ensures.value, (c.enter_side-drawn.ensures.nodes_after, c.enter_side-drawn.ensures.track_after)) c.word-reference.ensures
    c.take-done.ensures _ _ _ c.if-digit-ne3.true c.close_one.ensures

pub returns : goal.returns
returns t c =
    take_both _ _ _ _ _ _ _ _ _ _ _ _ _ _ _ _
    (one_more _ c.if-left-eq0.false)
    c.word-t.ensures
    c.kind_of-kind.ensures
    c.digit_at-digit.ensures c.word.ensures c.if-word-eq-UNTOUCHED.false
    c.if-digit-eq4.false _ _ _ _ _ _ _ _ _
    c.word-2.ensures c.inside_of-inside.ensures c.taken-side.ensures
    c.word-own.ensures
    c.word-other.ensures
    c.second_of-second.ensures
    c.sum-2.ensures
    c.taken-subterm.ensures c.sum-next.ensures _ _ _
    _ _ _ _ (c.enter_side-drawn.ensures.value, (c.enter_side-drawn.ensures.nodes_after, c.enter_side-drawn.ensures.track_after)) c.word-reference.ensures
    c.take-done.ensures _ _ _ c.if-digit-ne3.false _ c.put_side.ensures _ _ _ _ _ _
    _ (c.enter_side-entered.ensures.value, (c.enter_side-entered.ensures.nodes_after, c.enter_side-entered.ensures.track_after))
    c.word-right.ensures c.take-across.ensures c.close_both.ensures
