-- `weighing::weigh_end` meets its contract, by the kind and what stands at each side.
-- Assumes nothing.
use Rattle.std.proofs.Common.{sym, ◌∙◌}
use Rattle.weighing.proofs.EndLaws.{end_elsewhere, end_left_goes_on, end_right_goes_on, end_of_both}
use Rattle.weighing.proofs.weigh_end.Goals.{then-word-ne-OMEGA-via-then-word-ne-OMEGA, then-word-ne-OMEGA-via-else-word-ne-OMEGA+then-word-ne-OMEGA-2}
use Rattle.weighing.proofs.weigh_end.Goals as goal

pub returns-then-kind-ne-PARALLEL_WORD : goal.returns-then-kind-ne-PARALLEL_WORD
returns-then-kind-ne-PARALLEL_WORD c = end_elsewhere _ _ _ _ _ _ _ _ c.if-kind-ne-PARALLEL_WORD.true

pub returns-then-word-ne-OMEGA : goal.returns-then-word-ne-OMEGA
returns-then-word-ne-OMEGA c = elim c.then-word-ne-OMEGA.branch [
  | then-word-ne-OMEGA-via-then-word-ne-OMEGA w ↦
      end_left_goes_on _ _ _ _ _ _ _ _ c.if-kind-ne-PARALLEL_WORD.false _
      c.word-first.ensures _ c.word.ensures w.if-word-ne-OMEGA.true
  | then-word-ne-OMEGA-via-else-word-ne-OMEGA+then-word-ne-OMEGA-2 w ↦
      let over = sym c.word.ensures ∙ w.if-word-ne-OMEGA.false in
      end_right_goes_on _ _ _ _ _ _ _ _ c.if-kind-ne-PARALLEL_WORD.false _
      c.word-first.ensures over _ c.word-second.ensures _
      w.word-else-word-ne-OMEGA.ensures w.if-word-ne-OMEGA-2.true
]

pub returns : goal.returns
returns c =
    let over = sym c.word.ensures ∙ c.if-word-ne-OMEGA.false in
    let across = sym c.word-else-word-ne-OMEGA.ensures ∙ c.if-word-ne-OMEGA-2.false in
    end_of_both _ _ _ _ _ _ _ _ c.if-kind-ne-PARALLEL_WORD.false _
    c.word-first.ensures over _ c.word-second.ensures across _ _
    c.parents.ensures c.ended.ensures
