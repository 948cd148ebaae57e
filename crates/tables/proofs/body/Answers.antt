use Rattle.std.proofs.Common.{◌∙◌, refl, sym, ap, arith}
use Rattle.refusals.specs.code.Said.{line_told}
use Rattle.tables.specs.Checked.{checked_told}
use Rattle.tables.proofs.Told.{goes_told}
use Rattle.tables.proofs.Loop.{going_starts, going_stops, going_on, going_ready, going_closes, going_turn}
use Rattle.tables.proofs.body.Goals as goal

pub loop-frame-init : goal.loop-frame-init
loop-frame-init c = record { going = going_starts _ _ _ _ _ _ _ _ c.requires; after_kept = refl }

pub returns-in_default : goal.returns-in_default
unfolding line_told checked_told
returns-in_default c =
    let stops = sym (ap line_told c.unwrap_err.ensures) ∙ c.table_line-said.ensures in
    record {
      fills = rw (c.at.ensures.0, c.at.ensures.1) (going_stops c.loop-frame.invariant.going _ stops);
      after_kept = c.loop-frame.invariant.after_kept;
    }

pub overflow_add-line : goal.overflow_add-line
overflow_add-line c =
    let going = c.loop-frame.invariant.going in
    let goes = goes_told c.in-Ok.is c.table_line-said.ensures in
    omega (arith, going.counted, c.well_formed.0, going_on going goes)

pub returns-then-closes : goal.returns-then-closes
returns-then-closes c =
    let goes = goes_told c.in-Ok.is c.table_line-said.ensures in
    let last = sym c.closes.ensures ∙ c.if-closes.true in
    record {
      fills = going_closes c.loop-frame.invariant.going goes last _ c.closed.ensures;
      after_kept = c.loop-frame.invariant.after_kept;
    }

pub take-s-requires : goal.take-s-requires
take-s-requires c =
    let goes = goes_told c.in-Ok.is c.table_line-said.ensures in
    going_ready c.loop-frame.invariant.going goes

pub overflow_add-line-in-loop-frame : goal.overflow_add-line-in-loop-frame
overflow_add-line-in-loop-frame c =
    let going = c.loop-frame.invariant.going in
    let goes = goes_told c.in-Ok.is c.table_line-said.ensures in
    omega (arith, going.counted, c.well_formed.0, going_on going goes)

pub loop-frame-smaller : goal.loop-frame-smaller
loop-frame-smaller c =
    let goes = goes_told c.in-Ok.is c.table_line-said.ensures in
    omega (arith, going_on c.loop-frame.invariant.going goes)

pub loop-frame-preserved : goal.loop-frame-preserved
loop-frame-preserved c =
    let goes = goes_told c.in-Ok.is c.table_line-said.ensures in
    let more = sym c.closes.ensures ∙ c.if-closes.false in
    let taken = c.take-s.ensures in
    record {
      going = going_turn c.loop-frame.invariant.going goes more _ _ _ _ _ _ taken.value taken.waiting_after taken.kinds_after
          taken.payloads_after taken.owners_after taken.roots_after;
      after_kept = taken.after_kept ∙ c.loop-frame.invariant.after_kept;
    }
