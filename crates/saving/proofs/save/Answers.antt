-- `saving::save` meets its contract: put together, what its calls give is the saved text, and the numbered graph and the marks are
-- cleared last. Assumes nothing.
use Rattle.std.proofs.Common.{refl}
use Rattle.saving.proofs.Assembled.{assembled}
use Rattle.saving.proofs.save.Goals as goal

pub returns : goal.returns
returns c =
    let table = c.args.table.now in
    let run = c.args.run.now in
    let left = c.number-counts.ensures in
    let done = assembled table.kinds table.owners table.after table.roots
    run.words.nodes run.words.track run.counters _ _ _ _ _ _ _ _
    c.from-fresh.ensures c.min.ensures
    c.take_marks.ensures c.from.ensures c.from-2.ensures
    left.graph_after _ _ _ c.write-saved.ensures in
    record {
      text_after = done.0;
      work_after = rw (left.sides_after, left.pending_after, left.numbers_after, left.spare_after) refl;
      saves = done.1;
    }
