use Rattle.control.proofs.Sums.{one_more}
use Rattle.looking.proofs.LookLaws.{side_few}
use Rattle.weighing.proofs.WeighLaws.{at_spent, at_fresh, at_rest}
use Rattle.weighing.proofs.WeighLaws.{at_an_end, at_the_end, at_astray, at_one, at_both}
use Rattle.std.proofs.Common.{arith}
use Rattle.weighing.proofs.+weigh_at.Goals as goal

pub returns-then-left-eq0 : goal.returns-then-left-eq0
returns-then-left-eq0 t c = at_spent _ _ _ _ _ _ _ _ _ _ _ _ _ c.if-left-eq0.true

pub returns-then-n-eq0 : goal.returns-then-n-eq0
returns-then-n-eq0 t c =
    at_fresh _ _ _ _ _ _ _ _ _ _ _ _ _ _ _ _ (one_more _ c.if-left-eq0.false)
    c.if-n-eq0.true c.weigh_term-found.ensures c.entering.ensures

pub returns-then-state-eq-UNTOUCHED : goal.returns-then-state-eq-UNTOUCHED
returns-then-state-eq-UNTOUCHED t c = at_rest (record {
  more = one_more _ c.if-left-eq0.false;
  there = c.if-n-eq0.false;
  state_is = c.word-state.ensures;
  term_is = c.word-term.ensures;
  frame_is = c.word-frame.ensures;
}) c.if-state-eq-UNTOUCHED.true c.weigh_term.ensures

pub returns-then-state-ne-ENTERED : goal.returns-then-state-ne-ENTERED
returns-then-state-ne-ENTERED t c = at_an_end (record {
  more = one_more _ c.if-left-eq0.false;
  there = c.if-n-eq0.false;
  state_is = c.word-state.ensures;
  term_is = c.word-term.ensures;
  frame_is = c.word-frame.ensures;
}) c.if-state-eq-UNTOUCHED.false c.if-state-ne-ENTERED.true

pub returns-then-digit-eq4 : goal.returns-then-digit-eq4
returns-then-digit-eq4 t c = at_the_end (record {
  s = c.word-state.result;
  standing = record {
    more = one_more _ c.if-left-eq0.false;
    there = c.if-n-eq0.false;
    state_is = c.word-state.ensures;
    term_is = c.word-term.ensures;
    frame_is = c.word-frame.ensures;
  };
  enters = c.if-state-ne-ENTERED.false;
  kind_is = c.kind_of-kind.ensures;
  digit_is = c.digit_at-digit.ensures;
  o = c.around_of.result;
  around_is = c.around_of.ensures;
  within_is = c.is_within-within.ensures;
}) c.if-digit-eq4.true c.weigh_end.ensures

pub returns-then-not-is_side : goal.returns-then-not-is_side
returns-then-not-is_side t c =
    at_astray (record {
      s = c.word-state.result;
      standing = record {
        more = one_more _ c.if-left-eq0.false;
        there = c.if-n-eq0.false;
        state_is = c.word-state.ensures;
        term_is = c.word-term.ensures;
        frame_is = c.word-frame.ensures;
      };
      enters = c.if-state-ne-ENTERED.false;
      kind_is = c.kind_of-kind.ensures;
      digit_is = c.digit_at-digit.ensures;
      o = c.around_of.result;
      around_is = c.around_of.ensures;
      within_is = c.is_within-within.ensures;
    }) c.if-digit-eq4.false
    c.is_side.ensures c.if-not-is_side.true

pub overflow_sub-less : goal.overflow_sub-less
overflow_sub-less t c = omega (arith, c.if-left-eq0.false)

pub overflow_add-side : goal.overflow_add-side
overflow_add-side t c = omega (arith, side_few _ _ c.taken-side.ensures)

pub word-own-requires : goal.word-own-requires
word-own-requires t c = omega (arith, side_few _ _ c.taken-side.ensures)

pub overflow_sub-side : goal.overflow_sub-side
overflow_sub-side t c = omega (arith, side_few _ _ c.taken-side.ensures)

pub word-other-requires : goal.word-other-requires
word-other-requires t c = omega (arith, side_few _ _ c.taken-side.ensures)

pub overflow_add-side-2 : goal.overflow_add-side-2
overflow_add-side-2 t c = omega (arith, side_few _ _ c.taken-side.ensures)

pub word-reference-requires : goal.word-reference-requires
word-reference-requires t c = omega (arith, side_few _ _ c.taken-side.ensures)

pub returns-then-digit-ne3 : goal.returns-then-digit-ne3
returns-then-digit-ne3 t c =
    at_one (record {
      s = c.word-state.result;
      standing = record {
        more = one_more _ c.if-left-eq0.false;
        there = c.if-n-eq0.false;
        state_is = c.word-state.ensures;
        term_is = c.word-term.ensures;
        frame_is = c.word-frame.ensures;
      };
      enters = c.if-state-ne-ENTERED.false;
      kind_is = c.kind_of-kind.ensures;
      digit_is = c.digit_at-digit.ensures;
      o = c.around_of.result;
      around_is = c.around_of.ensures;
      within_is = c.is_within-within.ensures;
    }) c.if-digit-eq4.false c.is_side.ensures
    c.if-not-is_side.false (record {
      second_is = c.second_of-second.ensures;
      next = c.sum-next.result;
      next_is = c.sum-next.ensures;
      set_is = c.payload_of-set.ensures;
      inside_is = c.inside_of-inside.ensures;
      side = c.taken-side.result;
      side_is = c.taken-side.ensures;
      own_is = c.word-own.ensures;
      other_is = c.word-other.ensures;
      gone = c.word-reference.result;
      gone_is = c.word-reference.ensures;
      first = c.sum.result;
      first_is = c.sum.ensures;
      below = c.taken-subterm.result;
      below_is = c.taken-subterm.ensures;
      found_is = c.weigh_at-found.ensures;
    }) c.if-digit-ne3.true c.one.ensures

pub returns : goal.returns
returns t c =
    at_both (record {
      s = c.word-state.result;
      standing = record {
        more = one_more _ c.if-left-eq0.false;
        there = c.if-n-eq0.false;
        state_is = c.word-state.ensures;
        term_is = c.word-term.ensures;
        frame_is = c.word-frame.ensures;
      };
      enters = c.if-state-ne-ENTERED.false;
      kind_is = c.kind_of-kind.ensures;
      digit_is = c.digit_at-digit.ensures;
      o = c.around_of.result;
      around_is = c.around_of.ensures;
      within_is = c.is_within-within.ensures;
    }) c.if-digit-eq4.false c.is_side.ensures
    c.if-not-is_side.false (record {
      second_is = c.second_of-second.ensures;
      next = c.sum-next.result;
      next_is = c.sum-next.ensures;
      set_is = c.payload_of-set.ensures;
      inside_is = c.inside_of-inside.ensures;
      side = c.taken-side.result;
      side_is = c.taken-side.ensures;
      own_is = c.word-own.ensures;
      other_is = c.word-other.ensures;
      gone = c.word-reference.result;
      gone_is = c.word-reference.ensures;
      first = c.sum.result;
      first_is = c.sum.ensures;
      below = c.taken-subterm.result;
      below_is = c.taken-subterm.ensures;
      found_is = c.weigh_at-found.ensures;
    }) c.if-digit-ne3.false
    c.end_of-from.ensures c.word-right.ensures
    c.weigh_at-across.ensures c.both.ensures
