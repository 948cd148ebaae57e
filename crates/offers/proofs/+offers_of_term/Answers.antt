use Rattle.std.proofs.Common.{◌∙◌}
use Rattle.offers.proofs.Returns.{one_less, term_none, term_low, term_high, term_apart, term_sequence}
use Rattle.offers.proofs.Returns.{term_split}
use Rattle.offers.proofs.+offers_of_term.Goals.{then-kind-lt-EXTERNAL_WORD-via-then-kind-lt-EXTERNAL_WORD}
use Rattle.offers.proofs.+offers_of_term.Goals.{then-kind-lt-EXTERNAL_WORD-via-else-kind-lt-EXTERNAL_WORD+then-kind-gt-PARALLEL_WORD}
use Rattle.offers.proofs.+offers_of_term.Goals as goal

pub returns-then-left-eq0 : goal.returns-then-left-eq0
returns-then-left-eq0 t c = c.unseen.ensures ∙ term_none _ _ _ _ _ c.if-left-eq0.true

pub returns-then-kind-lt-EXTERNAL_WORD : goal.returns-then-kind-lt-EXTERNAL_WORD
returns-then-kind-lt-EXTERNAL_WORD t c =
    let more = one_less _ c.if-left-eq0.false in
    elim c.then-kind-lt-EXTERNAL_WORD.branch [
      | then-kind-lt-EXTERNAL_WORD-via-then-kind-lt-EXTERNAL_WORD w ↦
          term_low _ _ _ _ _ _ _ more c.kind_of-kind.ensures _ _ c.operand_of.ensures
          w.if-kind-lt-EXTERNAL_WORD.true c.own.ensures
      | then-kind-lt-EXTERNAL_WORD-via-else-kind-lt-EXTERNAL_WORD+then-kind-gt-PARALLEL_WORD w ↦
          term_high _ _ _ _ _ _ _ more c.kind_of-kind.ensures _ _ c.operand_of.ensures
          w.if-kind-gt-PARALLEL_WORD.true c.own.ensures
    ]

pub returns-then-not-in_order : goal.returns-then-not-in_order
returns-then-not-in_order t c =
    let more = one_less _ c.if-left-eq0.false in
    term_apart _ _ _ _ _ _ _ more c.kind_of-kind.ensures _ _ _ _ c.first_of-first.ensures
    c.second_of-second.ensures c.in_order.ensures c.if-kind-lt-EXTERNAL_WORD.false c.if-kind-gt-PARALLEL_WORD.false
    c.if-not-in_order.true c.unseen-then-not-in_order.ensures

pub returns-then-kind-eq-SEQUENCE_WORD : goal.returns-then-kind-eq-SEQUENCE_WORD
returns-then-kind-eq-SEQUENCE_WORD t c =
    let more = one_less _ c.if-left-eq0.false in
    term_sequence _ _ _ _ _ _ _ more c.kind_of-kind.ensures _ _ _ _ c.first_of-first.ensures
    c.second_of-second.ensures c.in_order.ensures _ c.offers_of_term-l.ensures c.if-not-in_order.false
    c.if-kind-eq-SEQUENCE_WORD.true c.settled.ensures

pub returns : goal.returns
returns t c =
    let more = one_less _ c.if-left-eq0.false in
    term_split _ _ _ _ _ _ _ more c.kind_of-kind.ensures _ _ _ _ c.first_of-first.ensures
    c.second_of-second.ensures c.in_order.ensures _ c.offers_of_term-l.ensures c.if-not-in_order.false
    _ _ c.offers_of_term-r.ensures c.payload_of.ensures c.if-kind-lt-EXTERNAL_WORD.false c.if-kind-gt-PARALLEL_WORD.false
    c.if-kind-eq-SEQUENCE_WORD.false c.combined.ensures
