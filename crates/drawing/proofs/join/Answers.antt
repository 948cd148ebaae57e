use Rattle.std.proofs.Common.{sym, ◌∙◌, inl, inr, arith}
use Rattle.std.proofs.Math.Nat.{sub-zero}
use Rattle.drawing.proofs.Laws.{joined_end, joined_turn, parts_kept}
use Rattle.drawing.proofs.join.Goals as goal
use Rattle.drawing.proofs.join.Goals.{then-leads, else-leads}

pub loop-i-init : goal.loop-i-init
loop-i-init c = rw sub-zero

pub loop-i-preserved : goal.loop-i-preserved
loop-i-preserved c =
    joined_turn _ _ _ c.loop-i.i _ _ c.args.tally.arcs (omega arith) (omega arith) _ _ _
    c.track_word-from.ensures c.track_word-target.ensures
    c.leads.ensures _ _
    (elim c.if-leads.branch [
      | then-leads w ↦ inl (w.if-leads.true, w.kept-is ∙ w.arc-kept.ensures.value, w.track-is ∙ w.arc-kept.ensures.track_after)
      | else-leads w ↦ inr (w.if-leads.false, w.kept-is, w.track-is)
    ])
    ∙ c.loop-i.invariant

pub returns : goal.returns
returns c =
    let told =
    parts_kept _ _ _
    (sym (joined_end _ _ _ _ _ _ _ _ c.min-i-end.ensures c.loop-i-test.false) ∙ c.loop-i.invariant) in
    record { value = told.0; track_after = told.1 }
