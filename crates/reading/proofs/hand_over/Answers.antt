-- `reading::hand_over` meets its contract: each way to where they meet knows the answer. Assumes nothing.
use Rattle.std.proofs.Common.{refl, sym, ap, ◌∙◌}
use Rattle.links.specs.declared.Graph.{Graph}
use Rattle.reading.proofs.Promises.{handed_new, handed_old}
use Rattle.reading.proofs.hand_over.Goals as goal
use Rattle.reading.proofs.hand_over.Goals.{then-is_ok, else-is_ok}

pub returns : goal.returns
returns c =
    let is = c.is_ok.ensures.value in
    record {
      labels_after = elim c.if-is_ok.branch [
        | then-is_ok w ↦ ap (λ (g : Graph). g.labels) w.found-is ∙ sym (handed_new _ _ c.args.judged (sym is ∙ w.if-is_ok.true))
        | else-is_ok w ↦ ap (λ (g : Graph). g.labels) w.found-is ∙ sym (handed_old _ _ c.args.judged (sym is ∙ w.if-is_ok.false))
      ];
      graph_after = elim c.if-is_ok.branch [
        | then-is_ok w ↦ ap (λ (g : Graph). g.track) w.found-is ∙ sym (handed_new _ _ c.args.judged (sym is ∙ w.if-is_ok.true))
        | else-is_ok w ↦ ap (λ (g : Graph). g.track) w.found-is ∙ sym (handed_old _ _ c.args.judged (sym is ∙ w.if-is_ok.false))
      ];
      marks_after = refl;
      track_after = refl;
    }
