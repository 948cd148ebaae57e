use Rattle.std.proofs.Common.{refl, ap, ◌∙◌, arith}
use Rattle.columns.specs.words.Columns.{columns}
use Rattle.marks.specs.words.Mark.{literal}
use Rattle.framing.proofs.Spelt.{answer_short, path_kept, nodes_owed, nodes_put, node_less}
use Rattle.framing.proofs.Spelt.{nodes_short}
use Rattle.framing.proofs.put_nodes.Goals as goal

pub loop-k-init : goal.loop-k-init
loop-k-init c = (refl, nodes_owed (columns _ _ _ _) _ _)

pub put_node-at-requires : goal.put_node-at-requires
put_node-at-requires c =
    let a = c.args in
    let n = columns a.table.now.kinds a.table.now.owners a.table.now.after a.table.now.roots in
    let l = c.loop-k in (
      path_kept n c.literal_of.result l.path _ l.invariant.0 c.place-placed.ensures.path_after,
      answer_short n _ _ c.place-placed.ensures.value,
      omega (arith, l.invariant.1.lengths, nodes_short n a.labels.now 0 a.count),
    )

pub loop-k-preserved : goal.loop-k-preserved
loop-k-preserved c =
    let l = c.loop-k in
    let is_literal = c.literal_of.ensures ∙ ap literal c.reference_word.ensures in (
      path_kept (columns _ _ _ _) c.literal_of.result l.path _ l.invariant.0 c.place-placed.ensures.path_after,
      node_less (columns _ _ _ _) _ _ _ _ _ _ _ c.loop-k-test.true is_literal l.invariant.0 c.place-placed.ensures.value
          c.place-placed.ensures.path_after l.invariant.1
          c.put_node-at.ensures,
    )

pub returns : goal.returns
returns c =
    let a = c.args in
    let n = columns a.table.now.kinds a.table.now.owners a.table.now.after a.table.now.roots in
    let lines = nodes_put n _ _ _ c.loop-k-test.false c.loop-k.invariant.1 in
    record { puts = lines; upper_bound = omega (arith, lines.ends, nodes_short n a.labels.now 0 a.count) }
