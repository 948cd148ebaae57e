use Rattle.std.proofs.Common.{refl, sym, ◌∙◌}
use Rattle.drawing.proofs.Laws.{met_each_turn, met_each_end, parts_kept}
use Rattle.drawing.proofs.meet_each.Goals as goal

pub loop-i-init : goal.loop-i-init
loop-i-init c = refl

pub loop-i-preserved : goal.loop-i-preserved
loop-i-preserved c =
    met_each_turn _ _ _ _ _ c.loop-i-test.true _ _ _
    c.event_node-other.ensures c.meet-kept.ensures.value c.meet-kept.ensures.track_after
    ∙ c.loop-i.invariant

pub returns : goal.returns
returns c =
    let told = parts_kept _ _ _ (sym (met_each_end _ _ _ _ _ c.loop-i-test.false) ∙ c.loop-i.invariant) in
    record { value = told.0; track_after = told.1 }
