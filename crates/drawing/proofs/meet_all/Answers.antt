use Rattle.std.proofs.Common.{refl, sym, ◌∙◌}
use Rattle.drawing.proofs.Laws.{met_all_turn, met_all_end, parts_kept}
use Rattle.drawing.proofs.meet_all.Goals as goal

pub loop-i-init : goal.loop-i-init
loop-i-init c = refl

pub loop-i-preserved : goal.loop-i-preserved
loop-i-preserved c =
    met_all_turn _ _ _ _ _ _ c.loop-i-test.true _ _ _
    c.event_node-node.ensures (c.meet_each-kept.ensures.value, c.meet_each-kept.ensures.track_after) ∙ c.loop-i.invariant

pub returns : goal.returns
returns c =
    let told = parts_kept _ _ _ (sym (met_all_end _ _ _ _ _ _ c.loop-i-test.false) ∙ c.loop-i.invariant) in
    record { value = told.0; track_after = told.1 }
