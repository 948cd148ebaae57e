use Rattle.std.proofs.Common.{◌+◌, ◌-◌, refl, sym, ◌∙◌, ap, arith}
use Rattle.offers.specs.code.Following.{levels}
use Rattle.parts.specs.code.Parts.{unsequenced}
use Rattle.parts.proofs.Returns.{passed_none, passed_last, passed_one}
use Rattle.parts.proofs.unsequenced.Goals as goal

pub loop-init : goal.loop-init
loop-init c = refl

pub returns-then-kind_of-ne-SEQUENCE_WORD : goal.returns-then-kind_of-ne-SEQUENCE_WORD
returns-then-kind_of-ne-SEQUENCE_WORD c =
    sym (passed_last _ _ _ (levels - (c.loop.counter + 1)) (omega (arith, c.loop-test.true))
    (λ z. c.if-kind_of-ne-SEQUENCE_WORD.true (c.kind_of.ensures ∙ z)))
    ∙ c.loop.invariant

pub loop-preserved : goal.loop-preserved
loop-preserved c =
    ap (unsequenced _ _) c.first_of-term.ensures
    ∙ sym (passed_one _ _ _ _ (omega (arith, c.loop-test.true)) (sym c.kind_of.ensures ∙ c.if-kind_of-ne-SEQUENCE_WORD.false))
    ∙ c.loop.invariant

pub returns : goal.returns
returns c = sym (passed_none _ _ _ (omega (arith, c.loop-test.false))) ∙ c.loop.invariant
