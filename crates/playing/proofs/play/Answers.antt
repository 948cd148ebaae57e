-- `playing::play` meets its contract: a line that asks for no step leaves every word as it was, and one that
-- asks for a step comes to what the step answers; what that says of a run is told with it. Assumes nothing.
use Rattle.std.proofs.Common.{refl, ap, ◌∙◌, Option, Ok}
use Rattle.std.proofs.lemmas.Result.{err_from_is_err_and}
use Rattle.scripts.specs.declared.Address.{Address}
use Rattle.scripts.specs.ScriptStep.{step_told}
use Rattle.runs.specs.Answer.{answer_told}
use Rattle.playing.specs.Played.{played_told}
use Rattle.playing.proofs.Laws.{line_refused, script_ends, step_refused, shown_played}
use Rattle.playing.proofs.play.Goals as goal

pub returns-in_default : goal.returns-in_default
unfolding played_told step_told
returns-in_default c =
    let told = line_refused _ _ _ _ _ _ _ _ _ _ (c.next_step-line.ensures.value, c.next_step-line.ensures.digits_after) _
    (ap step_told c.unwrap_err-refusal.ensures) in
    record { counters_after = told.0; digits_after = told.1.0; plays = told.1.1 }

pub returns-in_default-asked : goal.returns-in_default-asked
unfolding played_told step_told
returns-in_default-asked c =
    let ends = ap step_told c.in-Ok.is ∙ ap (λ (o : Option Address). step_told (Ok o)) c.in_default-asked.is in
    let told = script_ends _ _ _ _ _ _ _ _ _ _ (c.next_step-line.ensures.value, c.next_step-line.ensures.digits_after) ends in
    record { counters_after = told.0; digits_after = told.1.0; plays = told.1.1 }

pub returns-in_err-event : goal.returns-in_err-event
unfolding played_told step_told answer_told
returns-in_err-event c =
    let asks = ap step_told c.in-Ok.is ∙ ap (λ (o : Option Address). step_told (Ok o)) c.in-Some.is in
    let k = c.in_err-event.ensures {u = tt} in
    let told = step_refused _ _ _ _ _ _ _ _ _ _ (c.next_step-line.ensures.value, c.next_step-line.ensures.digits_after) _ _ asks
    _ _ _ _ k.counters_after _ refl in
    let p = err_from_is_err_and c.from_residual.result c.from_residual.ensures.1 in
    rw (p.1, p.2) (record { counters_after = told.0; digits_after = told.1.0; plays = told.1.1 })

pub returns : goal.returns
unfolding played_told step_told answer_told
returns c =
    let asks = ap step_told c.in-Ok.is ∙ ap (λ (o : Option Address). step_told (Ok o)) c.in-Some.is in
    let k = c.in_ok-event.ensures {u = tt} in
    let told = shown_played _ _ _ _ _ _ _ _ _ _ (c.next_step-line.ensures.value, c.next_step-line.ensures.digits_after) _ _ asks
    _ _ _ _ k.counters_after _ refl in
    record { counters_after = told.0; digits_after = told.1.0; plays = told.1.1 }
