use Rattle.std.proofs.Common.{ap, ◌∙◌, arith}
use Rattle.columns.specs.words.Columns.{columns}
use Rattle.marks.specs.words.Mark.{literal}
use Rattle.framing.proofs.Spelt.{answer_short, nodes_long_all, nodes_long_none, node_longer}
use Rattle.framing.proofs.Spelt.{nodes_short}
use Rattle.framing.proofs.nodes_length.Goals as goal

pub loop-k-init : goal.loop-k-init
loop-k-init c =
    let a = c.args in
    let n = columns a.table.now.kinds a.table.now.owners a.table.now.after a.table.now.roots in
    omega (arith, nodes_long_all n a.labels.now a.count)

pub overflow_mul-length : goal.overflow_mul-length
overflow_mul-length c = omega (arith, answer_short (columns _ _ _ _) _ _ c.place-placed.ensures.value)

pub overflow_add-length : goal.overflow_add-length
overflow_add-length c = omega (arith, answer_short (columns _ _ _ _) _ _ c.place-placed.ensures.value)

pub overflow_add-length-in-loop-k : goal.overflow_add-length-in-loop-k
overflow_add-length-in-loop-k c =
    let a = c.args in
    let n = columns a.table.now.kinds a.table.now.owners a.table.now.after a.table.now.roots in
    let short = answer_short n _ _ c.place-placed.ensures.value in
    omega (arith, short, nodes_short n a.labels.now 0 a.count)

pub loop-k-preserved : goal.loop-k-preserved
loop-k-preserved c =
    let is_literal = c.literal_of.ensures ∙ ap literal c.reference_word.ensures in
    omega (
      arith,
      node_longer (columns _ _ _ _) _ _ _ _ _ c.loop-k-test.true is_literal c.place-placed.ensures.value,
    )

pub returns : goal.returns
returns c =
    let a = c.args in
    let n = columns a.table.now.kinds a.table.now.owners a.table.now.after a.table.now.roots in
    let none_left = nodes_long_none n a.labels.now c.loop-k.k a.count c.loop-k-test.false in
    record { value = omega (arith, none_left); upper_bound = omega (arith, none_left, nodes_short n a.labels.now 0 a.count) }
