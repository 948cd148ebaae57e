use Rattle.std.proofs.Common.{sym, ◌∙◌, arith}
use Rattle.inputs.proofs.Cutting.{next_within, table_here, table_behind, table_over}
use Rattle.inputs.proofs.table_end.Goals as goal

pub overflow_add-next : goal.overflow_add-next
overflow_add-next c =
    let t = c.args.text.now in
    omega (arith, next_within t c.loop-at.at c.loop-at-test.true, c.line_length.ensures)

pub returns-then-starts_1f : goal.returns-then-starts_1f
returns-then-starts_1f c =
    let t = c.args.text.now in
    let starts = sym c.starts_1f.ensures ∙ c.if-starts_1f.true in
    omega (arith, table_here t c.loop-at.at starts, c.line_length.ensures)

pub loop-at-smaller : goal.loop-at-smaller
loop-at-smaller c =
    let t = c.args.text.now in
    let within = next_within t c.loop-at.at c.loop-at-test.true in
    omega (arith, c.line_length.ensures)

pub loop-at-preserved : goal.loop-at-preserved
loop-at-preserved c =
    let t = c.args.text.now in
    let within = next_within t c.loop-at.at c.loop-at-test.true in
    let starts = sym c.starts_1f.ensures ∙ c.if-starts_1f.false in
    let behind = table_behind t c.loop-at.at starts in
    rw c.line_length.ensures (omega arith, omega arith)

pub returns : goal.returns
returns c =
    let t = c.args.text.now in
    omega (arith, table_over t c.loop-at.at c.loop-at-test.false)
