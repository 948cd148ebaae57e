-- `offers::inside` meets its contract: of a parallel, of a choice with a sequence around it in the plan, and of
-- one with none. Assumes nothing.
use Rattle.std.proofs.Common.{sym, ap, ◌∙◌, not, eq-eqb, eqb-true, true≢false}
use Rattle.offers.proofs.Returns.{bound_parallel, bound_there, bound_beyond, of_not}
use Rattle.offers.proofs.inside.Goals.{then-kind_of-eq-PARALLEL_WORD, else-kind_of-eq-PARALLEL_WORD}
use Rattle.offers.proofs.inside.Goals as goal

pub returns-then-around_of-ne0 : goal.returns-then-around_of-ne0
returns-then-around_of-ne0 c = elim c.if-kind_of-eq-PARALLEL_WORD.branch [
  | then-kind_of-eq-PARALLEL_WORD w ↦
      bound_parallel _ _ _ _ (sym c.kind_of.ensures ∙ w.if-kind_of-eq-PARALLEL_WORD.true)
  | else-kind_of-eq-PARALLEL_WORD w ↦
      let around = sym c.if-around_of-ne0.true ∙ w.value-is in
      bound_there _ _ _ _ (λ z. w.if-kind_of-eq-PARALLEL_WORD.false (c.kind_of.ensures ∙ z))
      (λ z. true≢false (around ∙ ap not (eq-eqb _ _ (w.around_of.ensures ∙ z))))
]

pub returns-else-around_of-ne0 : goal.returns-else-around_of-ne0
returns-else-around_of-ne0 c =
    c.word.ensures
    ∙ elim c.if-kind_of-eq-PARALLEL_WORD.branch [
      | then-kind_of-eq-PARALLEL_WORD w ↦
          let parallel = sym (eq-eqb _ _ w.if-kind_of-eq-PARALLEL_WORD.true) in
          absurd (true≢false (parallel ∙ sym w.value-is ∙ c.if-around_of-ne0.false))
      | else-kind_of-eq-PARALLEL_WORD w ↦
          let none = eqb-true _ _ (of_not _ (sym w.value-is ∙ c.if-around_of-ne0.false)) in
          bound_beyond _ _ _ _ (λ z. w.if-kind_of-eq-PARALLEL_WORD.false (c.kind_of.ensures ∙ z))
          (sym w.around_of.ensures ∙ none)
    ]
