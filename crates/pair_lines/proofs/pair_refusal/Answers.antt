-- `pair_lines::pair_refusal` meets its contract: each test stands for one of the spec's. Assumes nothing.
use Rattle.lines.specs.Refusal.{number, told}
use Rattle.pair_lines.proofs.Laws.{pair_length, pair_tag, from_past, to_past, pair_fits}
use Rattle.pair_lines.proofs.pair_refusal.Goals as goal

pub returns-then-chars-ne5 : goal.returns-then-chars-ne5
unfolding number told
returns-then-chars-ne5 c = pair_length _ _ _ c.if-chars-ne5.true

pub returns-then-byte-code : goal.returns-then-byte-code
unfolding number told
returns-then-byte-code c = pair_tag _ _ _ c.byte.ensures c.if-byte-code.true

pub returns-then-nodes-number_at : goal.returns-then-nodes-number_at
unfolding number told
returns-then-nodes-number_at c =
    from_past _ _ _ c.byte.ensures c.if-chars-ne5.false c.if-byte-code.false
    c.number_at.ensures.value c.if-nodes-number_at.true

pub returns-then-nodes-number_at-2 : goal.returns-then-nodes-number_at-2
unfolding number told
returns-then-nodes-number_at-2 c =
    to_past _ _ _ c.byte.ensures c.if-chars-ne5.false c.if-byte-code.false
    c.number_at.ensures.value c.if-nodes-number_at.false
    c.number_at-2.ensures.value c.if-nodes-number_at-2.true

pub returns : goal.returns
unfolding number told
returns c =
    pair_fits _ _ _ c.byte.ensures c.if-chars-ne5.false c.if-byte-code.false
    c.number_at.ensures.value c.if-nodes-number_at.false
    c.number_at-2.ensures.value c.if-nodes-number_at-2.false
