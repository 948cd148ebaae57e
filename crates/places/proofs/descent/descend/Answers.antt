use Rattle.std.proofs.Common.{sym, ap, ◌∙◌, arith}
use Rattle.kinds.specs.Kind.{subterms}
use Rattle.places.proofs.Ways.{inside, way_begun, way_done, way_short, way_leaf, way_on}
use Rattle.places.proofs.descent.descend.Goals as goal
use Rattle.places.proofs.descent.descend.Goals.{then-most-depth-via-then-most-depth}
use Rattle.places.proofs.descent.descend.Goals.{then-most-depth-via-else-most-depth+then-count-eq0}

pub loop-here-init : goal.loop-here-init
loop-here-init c = way_begun _ _ _ _ _ _

pub returns-then-most-depth : goal.returns-then-most-depth
returns-then-most-depth c =
    let count = c.subterms-count.ensures ∙ ap subterms c.kind_of.ensures in
    elim c.then-most-depth.branch [
      | then-most-depth-via-then-most-depth w ↦
          let told = way_short _ _ _ _ _ _ _ _ _ _ c.loop-here.invariant c.loop-here-test.true w.if-most-depth.true in
          record { value = told.0; path_after = grind (arith, told.1) }
      | then-most-depth-via-else-most-depth+then-count-eq0 w ↦
          let told =
          way_leaf _ _ _ _ _ _ _ _ _ _ c.loop-here.invariant c.loop-here-test.true (sym count ∙ w.if-count-eq0.true) in
          record { value = told.0; path_after = grind (arith, told.1) }
    ]

pub step_to-step-requires : goal.step_to-step-requires
step_to-step-requires c =
    let count = c.subterms-count.ensures ∙ ap subterms c.kind_of.ensures in
    inside _ _ (λ z. c.if-count-eq0.false (count ∙ z))

pub loop-here-preserved : goal.loop-here-preserved
loop-here-preserved c =
    let count = c.subterms-count.ensures ∙ ap subterms c.kind_of.ensures in
    way_on _ _ _ _ _ _ _ _ _ _ c.loop-here.invariant c.loop-here-test.true _ _ _ c.if-most-depth.false count
    c.if-count-eq0.false c.step_to-step.ensures.1 c.step_to-step.ensures.0

pub returns : goal.returns
returns c =
    let told = way_done _ _ _ _ _ _ _ _ _ _ c.loop-here.invariant c.loop-here-test.false in
    record { value = told.0; path_after = told.1 }
