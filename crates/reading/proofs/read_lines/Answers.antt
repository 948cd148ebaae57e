-- `reading::read_lines` meets its contract: the parts follow each other, and a law of `Gone` says what the text comes to at
-- each way out. Assumes nothing.
use Rattle.std.proofs.Common.{arith, refl, sym, ap, ◌∙◌, Err}
use Rattle.reading.specs.Answers.{read_told}
use Rattle.reading.proofs.Gone.{counts, goes, at_nodes, at_arcs, at_meetings, at_last}
use Rattle.reading.proofs.Gone.{failed_done, stopped_done, all_done}
use Rattle.reading.proofs.read_lines.Goals as goal

pub returns-in_default : goal.returns-in_default
returns-in_default c =
    let fails = c.unwrap_err.ensures ∙ ap (λ r. Err r) (sym c.at.ensures.0) in
    failed_done _ _ _ _ _ _ _ c.first_line-first.ensures _ fails c.at.ensures.1 _ refl

pub read_nodes-requires : goal.read_nodes-requires
read_nodes-requires c =
    (counts _ c.first_line-first.ensures c.in-Ok.is).nodes_fit

pub returns-in_err-behind_nodes : goal.returns-in_err-behind_nodes
returns-in_err-behind_nodes c =
    let n = counts _ c.first_line-first.ensures c.in-Ok.is in
    stopped_done _ _ _ _ _ _ _ _ (at_nodes _ _ n) c.read_nodes.ensures.value
    _ c.in_err-behind_nodes.was _ c.from_residual.ensures.1

pub overflow_add-nodes : goal.overflow_add-nodes
overflow_add-nodes c =
    let n = counts _ c.first_line-first.ensures c.in-Ok.is in
    omega (arith, n.nodes_fit)

pub read_pairs-requires : goal.read_pairs-requires
read_pairs-requires c =
    let n = counts _ c.first_line-first.ensures c.in-Ok.is in
    (omega (arith, n.arcs_fit), omega (arith, n.nodes_fit))

pub returns-in_err-behind_arcs : goal.returns-in_err-behind_arcs
returns-in_err-behind_arcs c =
    let n = counts _ c.first_line-first.ensures c.in-Ok.is in
    stopped_done _ _ _ _ _ _ _ _
    (at_arcs _ _ n c.read_nodes.ensures.value (goes c.in_ok-behind_nodes.was))
    c.read_pairs.ensures.value
    _ c.in_err-behind_arcs.was _ c.from_residual-in_err-behind_arcs.ensures.1

pub overflow_add-line : goal.overflow_add-line
overflow_add-line c =
    let n = counts _ c.first_line-first.ensures c.in-Ok.is in
    omega (arith, n.nodes_fit, n.arcs_fit)

pub overflow_add-line-2 : goal.overflow_add-line-2
overflow_add-line-2 c =
    let n = counts _ c.first_line-first.ensures c.in-Ok.is in
    omega (arith, n.nodes_fit, n.arcs_fit)

pub read_pairs-requires-2 : goal.read_pairs-requires-2
read_pairs-requires-2 c =
    let n = counts _ c.first_line-first.ensures c.in-Ok.is in
    (omega (arith, n.meetings_fit), omega (arith, n.nodes_fit, n.arcs_fit))

pub returns-in_err-behind_meetings : goal.returns-in_err-behind_meetings
returns-in_err-behind_meetings c =
    let n = counts _ c.first_line-first.ensures c.in-Ok.is in
    stopped_done _ _ _ _ _ _ _ _
    (at_meetings _ _ n c.read_nodes.ensures.value (goes c.in_ok-behind_nodes.was)
    c.read_pairs.ensures.value (goes c.in_ok-behind_arcs.was))
    c.read_pairs-2.ensures.value
    _ c.in_err-behind_meetings.was _ c.from_residual-in_err-behind_meetings.ensures.1

pub overflow_add-line-3 : goal.overflow_add-line-3
overflow_add-line-3 c =
    let n = counts _ c.first_line-first.ensures c.in-Ok.is in
    omega (arith, n.nodes_fit, n.arcs_fit, n.meetings_fit)

pub last_lines-requires : goal.last_lines-requires
last_lines-requires c =
    let n = counts _ c.first_line-first.ensures c.in-Ok.is in
    omega (arith, n.nodes_fit, n.arcs_fit, n.meetings_fit)

pub returns-in_err-last_lines : goal.returns-in_err-last_lines
returns-in_err-last_lines c =
    let n = counts _ c.first_line-first.ensures c.in-Ok.is in
    stopped_done _ _ _ _ _ _ _ _
    (at_last _ _ n c.read_nodes.ensures.value (goes c.in_ok-behind_nodes.was)
    c.read_pairs.ensures.value (goes c.in_ok-behind_arcs.was)
    c.read_pairs-2.ensures.value (goes c.in_ok-behind_meetings.was))
    c.last_lines.ensures
    _ c.in_err-last_lines.was _ c.from_residual-in_err-last_lines.ensures.1

pub returns : goal.returns
unfolding read_told
returns c =
    let n = counts _ c.first_line-first.ensures c.in-Ok.is in
    all_done _ _ _ _ _ n c.read_nodes.ensures.value (goes c.in_ok-behind_nodes.was)
    c.read_pairs.ensures.value (goes c.in_ok-behind_arcs.was)
    c.read_pairs-2.ensures.value (goes c.in_ok-behind_meetings.was)
    c.last_lines.ensures (goes c.in_ok-last_lines.was)
    c.read_nodes.ensures.labels_after refl
    c.read_pairs.ensures.graph_after refl c.read_pairs-2.ensures.graph_after
