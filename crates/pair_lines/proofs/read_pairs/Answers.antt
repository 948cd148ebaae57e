-- What each way out of `read_pairs` tells: a line that is none, one that is refused, or all of them. Assumes nothing.
use Rattle.std.proofs.Common.{◌∙◌, refl}
use Rattle.opening.specs.Answers.{lines_told}
use Rattle.opening.proofs.Handed.{refused_at, accepted_at, refused_met, accepted_met, stops_told}
use Rattle.opening.proofs.Turns.{no_line_refused, held_line, all_read, none_ends, line_ends}
use Rattle.pair_lines.proofs.Laws.{pairs_none, pair_more}
use Rattle.pair_lines.proofs.read_pairs.Goals as goal

pub loop-i-init : goal.loop-i-init
loop-i-init c = pairs_none _ _ _ _ _ _ _ _

pub unwrap_err-requires : goal.unwrap_err-requires
unwrap_err-requires c = no_line_refused _ c.in_default.not-Found c.wanted.ensures

pub returns-in_default : goal.returns-in_default
unfolding lines_told
returns-in_default c =
    let told = none_ends _ _ _ _ _ _ _ c.loop-i.invariant c.loop-i-test.true
    c.next_line-found.ensures c.wanted.ensures c.unwrap_err.ensures refl in
    record { value = rw (c.at.ensures.0, c.at.ensures.1) told.0; graph_after = told.1 }

pub returns-in_err-map_err : goal.returns-in_err-map_err
returns-in_err-map_err c =
    let i = held_line _ _ c.next_line-found.ensures c.in-Found.is c.characters-chars.ensures in
    let at = refused_at _ _ _ c.in_err-map_err.ensures.cases in
    let told = line_ends _ _ _ _ _ _ _ c.loop-i.invariant c.loop-i-test.true i c.pair_refusal.ensures
    _ (refused_met at.0) refl in
    record {
      value = stops_told _ _ c.from_residual.ensures.1 at.1 ∙ told.0;
      graph_after = told.1;
    }

pub loop-i-preserved : goal.loop-i-preserved
loop-i-preserved c =
    let i = held_line _ _ c.next_line-found.ensures c.in-Found.is c.characters-chars.ensures in
    pair_more _ _ _ _ _ _ _ _ c.loop-i.invariant c.loop-i-test.true i
    c.pair_refusal.ensures (accepted_met (accepted_at _ _ c.in_ok-map_err.ensures.cases))
    c.number_at.ensures.value c.number_at.ensures.upper_bound
    c.number_at-in-loop-i.ensures.value c.number_at-in-loop-i.ensures.upper_bound refl refl

pub returns : goal.returns
unfolding lines_told
returns c =
    let told = all_read _ _ _ _ _ _ _ c.loop-i.invariant c.loop-i.auto.i-end c.loop-i-test.false in
    record { value = told.0; graph_after = told.1 }
