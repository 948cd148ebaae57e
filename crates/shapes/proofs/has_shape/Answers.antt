-- `shapes::has_shape` meets its contract: what its parts tell, one behind the other, is all the rules. The walk leaves its own
-- scratch all 0, and the rest is cleared behind it. Assumes nothing.
use Rattle.std.proofs.Common.{refl}
use Rattle.shapes.proofs.ShapeTested.{rules_tested}
use Rattle.shapes.proofs.has_shape.Goals as goal

pub returns : goal.returns
returns c =
    let args = c.args in
    let counts = args.counts in
    let table = args.table.now in
    record {
      value = rules_tested table.kinds table.payloads table.after args.labels.now args.graph.now
          counts.nodes counts.arcs counts.meetings c.all_marked.ensures
          c.min.ensures c.ascend.ensures (c.link-fits.ensures.value, c.link-fits.ensures.sides_after) c.walk-reached.ensures.labels_after
          c.in_order-ordered.ensures c.min-count.ensures c.ascend-2.ensures
          c.join_events.ensures;
      sides_after = refl;
      pending_after = c.walk-reached.ensures.pending_after;
      numbers_after = refl;
      walked_after = refl;
    }
