use Rattle.control.proofs.Sums.{one_more}
use Rattle.weighing.proofs.WeighLaws.{term_spent, term_sequence, term_leaf, term_astray}
use Rattle.weighing.proofs.WeighLaws.{term_one, term_both}
use Rattle.weighing.proofs.+weigh_term.Goals as goal

pub returns-then-left-eq0 : goal.returns-then-left-eq0
returns-then-left-eq0 t c = term_spent _ _ _ _ _ _ _ _ _ c.if-left-eq0.true

pub returns-then-kind-eq-SEQUENCE_WORD : goal.returns-then-kind-eq-SEQUENCE_WORD
returns-then-kind-eq-SEQUENCE_WORD t c =
    term_sequence _ _ _ _ _ _ _ _ _ _ _ _ _ _
    (one_more _ c.if-left-eq0.false)
    c.kind_of-kind.ensures c.if-kind-eq-SEQUENCE_WORD.true
    c.sum-first.ensures c.sum-larger.ensures c.weigh_term.ensures

pub returns-then-not-is_split : goal.returns-then-not-is_split
returns-then-not-is_split t c =
    term_leaf (record {
      more = one_more _ c.if-left-eq0.false;
      kind_is = c.kind_of-kind.ensures;
      other = c.if-kind-eq-SEQUENCE_WORD.false;
      digit_is = c.digit_at-digit.ensures;
      o = c.around_of.result;
      around_is = c.around_of.ensures;
      within_is = c.is_within-within.ensures;
      split_is = c.is_split.ensures;
    }) c.if-not-is_split.true c.operand_of.ensures
    c.by_leaf.ensures

pub returns-then-not-is_side : goal.returns-then-not-is_side
returns-then-not-is_side t c = term_astray (record {
  more = one_more _ c.if-left-eq0.false;
  kind_is = c.kind_of-kind.ensures;
  other = c.if-kind-eq-SEQUENCE_WORD.false;
  digit_is = c.digit_at-digit.ensures;
  o = c.around_of.result;
  around_is = c.around_of.ensures;
  within_is = c.is_within-within.ensures;
  split_is = c.is_split.ensures;
}) c.if-not-is_split.false c.is_side.ensures c.if-not-is_side.true

pub returns-then-digit-ne3 : goal.returns-then-digit-ne3
returns-then-digit-ne3 t c =
    term_one (record {
      more = one_more _ c.if-left-eq0.false;
      kind_is = c.kind_of-kind.ensures;
      other = c.if-kind-eq-SEQUENCE_WORD.false;
      digit_is = c.digit_at-digit.ensures;
      o = c.around_of.result;
      around_is = c.around_of.ensures;
      within_is = c.is_within-within.ensures;
      split_is = c.is_split.ensures;
    }) c.if-not-is_split.false c.is_side.ensures
    c.if-not-is_side.false (record {
      first = c.sum-first.result;
      first_is = c.sum-first.ensures;
      second_is = c.second_of-second.ensures;
      next = c.sum-next.result;
      next_is = c.sum-next.ensures;
      set_is = c.payload_of-set.ensures;
      larger_is = c.sum-larger-2.ensures;
      gone = c.taken-taken.result;
      gone_is = c.taken-taken.ensures;
      raw = c.weigh_term-2.result;
      raw_is = c.weigh_term-2.ensures;
      found_is = c.entering-found.ensures;
    }) c.if-digit-ne3.true c.one.ensures

pub returns : goal.returns
returns t c =
    term_both (record {
      more = one_more _ c.if-left-eq0.false;
      kind_is = c.kind_of-kind.ensures;
      other = c.if-kind-eq-SEQUENCE_WORD.false;
      digit_is = c.digit_at-digit.ensures;
      o = c.around_of.result;
      around_is = c.around_of.ensures;
      within_is = c.is_within-within.ensures;
      split_is = c.is_split.ensures;
    }) c.if-not-is_split.false c.is_side.ensures
    c.if-not-is_side.false (record {
      first = c.sum-first.result;
      first_is = c.sum-first.ensures;
      second_is = c.second_of-second.ensures;
      next = c.sum-next.result;
      next_is = c.sum-next.ensures;
      set_is = c.payload_of-set.ensures;
      larger_is = c.sum-larger-2.ensures;
      gone = c.taken-taken.result;
      gone_is = c.taken-taken.ensures;
      raw = c.weigh_term-2.result;
      raw_is = c.weigh_term-2.ensures;
      found_is = c.entering-found.ensures;
    }) c.if-digit-ne3.false
    c.end_of-from.ensures c.weigh_term-3.ensures
    c.entering-other.ensures c.both.ensures
