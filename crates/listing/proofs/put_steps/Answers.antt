use Rattle.std.proofs.Common.{Ok, refl, sym, ap, ◌∙◌, arith}
use Rattle.lines.specs.Refusal.{met}
use Rattle.playing.specs.Played.{played_told}
use Rattle.listing.specs.code.Told.{number_of}
use Rattle.listing.proofs.Stepping.{going_starts, going_length, going_stops, going_on, going_turn, other_end, other_refused}
use Rattle.listing.proofs.put_steps.Goals as goal

pub loop-step-init : goal.loop-step-init
loop-step-init c = going_starts _ _ _ _ _ _ _

pub shape_of-out-in-Ok-None : goal.shape_of-out-in-Ok-None
shape_of-out-in-Ok-None c = going_length c.loop-step.invariant

pub shape_of-out-in-Err : goal.shape_of-out-in-Err
shape_of-out-in-Err c = going_length c.loop-step.invariant

pub returns-in-Ok-None : goal.returns-in-Ok-None
unfolding met number_of played_told
returns-in-Ok-None c =
    let told = ap played_told (c.in-Ok-None.is ∙ ap (λ o. Ok o) c.in-Ok-None.field-0-is) in
    going_stops c.loop-step.invariant (c.play.ensures.counters_after, c.play.ensures.digits_after) (other_end told)
    (sym (ap number_of told), refl, refl) c.requires

pub returns-in-Err : goal.returns-in-Err
unfolding met number_of played_told
returns-in-Err c =
    let told = ap played_told c.in-Err.is in
    going_stops c.loop-step.invariant (c.play.ensures.counters_after, c.play.ensures.digits_after) (other_refused told)
    (sym (ap number_of told), refl, refl) c.requires

pub put_event-end-requires : goal.put_event-end-requires
put_event-end-requires c = omega (arith, c.loop-step.invariant.ended, c.loop-step.invariant.within, c.requires)

pub overflow_add-line : goal.overflow_add-line
overflow_add-line c = omega (arith, c.loop-step.invariant.counted, c.loop-step.invariant.within, c.requires)

pub loop-step-smaller : goal.loop-step-smaller
unfolding played_told
loop-step-smaller c =
    let told = ap played_told (c.in-Ok-Some.is ∙ ap (λ o. Ok o) c.in-Ok-Some.field-0-is) in
    omega (arith, going_on c.loop-step.invariant (c.play.ensures.counters_after, c.play.ensures.digits_after) told)

pub loop-step-preserved : goal.loop-step-preserved
unfolding played_told
loop-step-preserved c =
    let told = ap played_told (c.in-Ok-Some.is ∙ ap (λ o. Ok o) c.in-Ok-Some.field-0-is) in
    going_turn c.loop-step.invariant (c.play.ensures.counters_after, c.play.ensures.digits_after) told c.put_event-end.ensures
