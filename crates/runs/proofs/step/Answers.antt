-- `runs::step` meets its contract: a step without a derivation, one with digits left over and one that passes
-- a room leave every word as it was; else the words are those of the step that is taken. What that says of a run is
-- `promised`. Assumes nothing.
use Rattle.std.proofs.Common.{refl, sym, ◌∙◌}
use Rattle.std.proofs.lemmas.Result.{err_from_is_err_and}
use Rattle.lines.specs.Refusal.{number, told}
use Rattle.lines.proofs.Refusals.{number_not_0}
use Rattle.runs.specs.Answer.{answer_told}
use Rattle.runs.proofs.Laws.{wanted_none, wanted_some, none_derived, digits_left, room_passed, step_taken}
use Rattle.runs.proofs.Promises.{promised}
use Rattle.runs.proofs.step.Goals as goal

pub returns-in_err-w : goal.returns-in_err-w
unfolding answer_told number
returns-in_err-w c =
    let none = wanted_none _ _ _ (sym c.ok_or.ensures.value ∙ c.in_err-w.was) in
    let kept = promised _ _ _ _ _ _ _ _ _ _ _
    (none_derived _ _ _ _ _ _ _ _ c.weigh-weighed.ensures none.0) in
    let p = err_from_is_err_and c.from_residual.result c.from_residual.ensures.1 in
    rw (p.1, p.2, none.1) (record { counters_after = kept.0; keeps = kept.1 })

pub returns-then-w-count : goal.returns-then-w-count
unfolding answer_told number
returns-then-w-count c =
    let some = wanted_some _ _ _ (sym c.ok_or.ensures.value ∙ c.in_ok-w.was) in
    let kept = promised _ _ _ _ _ _ _ _ _ _ _
    (digits_left _ _ _ _ _ _ _ _ c.weigh-weighed.ensures _ some c.if-w-count.true) in
    record { counters_after = kept.0; keeps = kept.1 }

pub returns-in_err-over_room : goal.returns-in_err-over_room
unfolding answer_told told
returns-in_err-over_room c =
    let some = wanted_some _ _ _ (sym c.ok_or.ensures.value ∙ c.in_ok-w.was) in
    let kept = promised _ _ _ _ _ _ _ _ _ _ _
    (room_passed _ _ _ _ _ _ _ _ c.weigh-weighed.ensures _ some c.if-w-count.false
    _ (c.in_err-over_room.ensures {u = tt}) (number_not_0 _)) in
    let p = err_from_is_err_and c.from_residual-in_err-over_room.result c.from_residual-in_err-over_room.ensures.1 in
    rw (p.1, p.2) (record { counters_after = kept.0; keeps = kept.1 })

pub returns : goal.returns
unfolding answer_told told
returns c =
    let some = wanted_some _ _ _ (sym c.ok_or.ensures.value ∙ c.in_ok-w.was) in
    let kept = promised _ _ _ _ _ _ _ _ _ _ _
    (step_taken _ _ _ _ _ _ _ _ c.weigh-weighed.ensures _ some c.if-w-count.false
    _ (c.in_ok-over_room.ensures {u = tt}) refl _ _ _ _
    c.perform-taken.ensures c.recount.ensures) in
    record { counters_after = kept.0; keeps = kept.1 }
