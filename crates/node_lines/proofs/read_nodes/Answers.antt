-- What each way out of `read_nodes` tells: a line that is none, one that is refused, or all of them. Assumes nothing.
use Rattle.std.proofs.Common.{◌≡◌, ◌+◌, ◌∙◌, arith, refl}
use Rattle.opening.specs.Answers.{lines_told}
use Rattle.opening.proofs.Handed.{refused_at, accepted_at, refused_met, accepted_met, stops_told}
use Rattle.opening.proofs.Turns.{no_line_refused, held_line, all_read, none_ends, line_ends}
use Rattle.node_lines.proofs.Laws.{nodes_none, node_more}
use Rattle.node_lines.proofs.read_nodes.Goals as goal

pub loop-k-init : goal.loop-k-init
loop-k-init c = nodes_none _ _ _ _ _ _ _ _

pub unwrap_err-requires : goal.unwrap_err-requires
unwrap_err-requires c = no_line_refused _ c.in_default.not-Found c.wanted.ensures

pub returns-in_default : goal.returns-in_default
unfolding lines_told
returns-in_default c =
    let told = none_ends _ _ _ _ _ _ _ c.loop-k.invariant c.loop-k-test.true
    c.next_line-found.ensures c.wanted.ensures c.unwrap_err.ensures (omega arith) in
    record { value = rw (c.at.ensures.0, c.at.ensures.1) told.0; labels_after = told.1 }

pub returns-in_err-map_err : goal.returns-in_err-map_err
returns-in_err-map_err c =
    let i = held_line _ _ c.next_line-found.ensures c.in-Found.is c.characters-chars.ensures in
    let at = refused_at _ _ _ c.in_err-map_err.ensures.cases in
    let line : c.in_err-map_err.field-0.0.line ≡ 2 + c.loop-k.k = omega (arith, at.1) in
    let told = line_ends _ _ _ _ _ _ _ c.loop-k.invariant c.loop-k-test.true i (c.node_refusal.ensures _)
    _ (refused_met at.0) refl in
    record {
      value = stops_told _ _ c.from_residual.ensures.1 line ∙ told.0;
      labels_after = told.1;
    }

pub loop-k-preserved : goal.loop-k-preserved
loop-k-preserved c =
    let i = held_line _ _ c.next_line-found.ensures c.in-Found.is c.characters-chars.ensures in
    node_more _ _ _ _ _ _ _ _ c.loop-k.invariant c.loop-k-test.true i (c.node_refusal.ensures _)
    (accepted_met (accepted_at _ _ c.in_ok-map_err.ensures.cases)) c.mark_of.ensures

pub returns : goal.returns
unfolding lines_told
returns c =
    let told = all_read _ _ _ _ _ _ _ c.loop-k.invariant c.loop-k.auto.k-end c.loop-k-test.false in
    record { value = told.0; labels_after = told.1 }
