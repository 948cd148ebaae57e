-- `weights::by_leaf` meets its contract, by what a leaf weighs at each kind. Assumes nothing.
use Rattle.std.proofs.Common.{◌∙◌, inl, inr, arith}
use Rattle.weights.proofs.RuleLaws.{prefix_leaf, SKIP_leaf, call_leaf, STOP_leaf, no_leaf, no_choice, chosen_leaf}
use Rattle.weights.proofs.by_leaf.Goals.{else-kind-eq-INTERNAL_WORD-via-then-kind-eq-INTERNAL_WORD+else-digit-eq2}
use Rattle.weights.proofs.by_leaf.Goals.{else-kind-eq-INTERNAL_WORD-via-else-kind-eq-INTERNAL_WORD}
use Rattle.weights.proofs.by_leaf.Goals as goal

pub returns-then-kind-eq-PREFIX_WORD : goal.returns-then-kind-eq-PREFIX_WORD
returns-then-kind-eq-PREFIX_WORD c = c.step.ensures ∙ prefix_leaf _ _ _ _ _ _ c.if-kind-eq-PREFIX_WORD.true

pub returns-then-kind-eq-SKIP_WORD : goal.returns-then-kind-eq-SKIP_WORD
returns-then-kind-eq-SKIP_WORD c =
    SKIP_leaf _ _ _ _ _ _ c.if-kind-eq-SKIP_WORD.true _ _ c.step-then-kind-eq-SKIP_WORD.ensures
    c.settled.ensures

pub returns-then-kind-eq-STOP_WORD : goal.returns-then-kind-eq-STOP_WORD
returns-then-kind-eq-STOP_WORD c = c.step-then-kind-eq-STOP_WORD.ensures ∙ elim c.if-kind-eq-STOP_WORD.either [
  | inl h ↦ call_leaf _ _ _ _ _ _ h
  | inr h ↦ STOP_leaf _ _ _ _ _ _ h.1
]

pub returns-then-digit-eq2 : goal.returns-then-digit-eq2
returns-then-digit-eq2 c = elim c.if-digit-eq2.either [
  | inl h ↦
      chosen_leaf _ _ _ _ _ _ c.if-kind-eq-INTERNAL_WORD.true (λ z. omega arith) (omega arith) _ _
      c.sum.ensures c.step-then-digit-eq2.ensures
  | inr h ↦
      let two = h.1 in
      chosen_leaf _ _ _ _ _ _ c.if-kind-eq-INTERNAL_WORD.true (λ z. omega arith) (omega arith) _ _
      c.sum.ensures c.step-then-digit-eq2.ensures
]

pub returns-else-kind-eq-INTERNAL_WORD : goal.returns-else-kind-eq-INTERNAL_WORD
returns-else-kind-eq-INTERNAL_WORD c = elim c.else-kind-eq-INTERNAL_WORD.branch [
  | else-kind-eq-INTERNAL_WORD-via-then-kind-eq-INTERNAL_WORD+else-digit-eq2 w ↦
      let other = w.if-digit-eq2.false in
      no_choice _ _ _ _ _ _ w.if-kind-eq-INTERNAL_WORD.true other.0 other.1
  | else-kind-eq-INTERNAL_WORD-via-else-kind-eq-INTERNAL_WORD w ↦
      let other = c.if-kind-eq-STOP_WORD.false in
      no_leaf _ _ _ _ _ _ c.if-kind-eq-PREFIX_WORD.false c.if-kind-eq-SKIP_WORD.false
      other.0 other.1 w.if-kind-eq-INTERNAL_WORD.false
]
