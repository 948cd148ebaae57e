-- `scripts::next_step` meets its contract: what the finder and the judging ensure is what the laws of
-- `Steps` ask for, and they tell the answer and the digits that it leaves; where it leaves none, nothing
-- is stored. Assumes nothing.
use Rattle.std.proofs.Common.{sym, ap, ◌∙◌}
use Rattle.std.proofs.lemmas.List.Edits.{sets}
use Rattle.std.proofs.lemmas.Result.{err_from_is_err_and}
use Rattle.lines.specs.Refusal.{number, told}
use Rattle.scripts.specs.ScriptStep.{step_told}
use Rattle.scripts.proofs.Steps.{neither, no_line, script_ends, refused_line, step_line}
use Rattle.scripts.proofs.next_step.Goals as goal

pub returns-in-End : goal.returns-in-End
unfolding step_told
returns-in-End c =
    let r = script_ends _ _ (sym c.next_line-line.ensures ∙ c.in-End.is) in
    record { value = r.told; digits_after = sym (ap (sets _ 0) r.bare) }

pub returns-in_default-line : goal.returns-in_default-line
unfolding step_told number
returns-in_default-line c =
    let r = no_line _ _ (sym c.next_line-line.ensures ∙ neither _ c.in_default.not-End c.in_default-line.not-Found) in
    record { value = r.told; digits_after = sym (ap (sets _ 0) r.bare) }

pub returns-in_err-judge : goal.returns-in_err-judge
unfolding step_told told
returns-in_err-judge c =
    let found = sym c.next_line-line.ensures ∙ c.in-Found.is in
    let r = refused_line _ _ _ _ found _ c.characters-chars.ensures _ (c.in_err-judge.ensures {u = tt}) in
    let p = err_from_is_err_and c.from_residual.result c.from_residual.ensures.1 in
    rw (p.1, p.2) (record { value = r.told; digits_after = sym (ap (sets _ 0) r.bare) })

pub overflow_sub-count : goal.overflow_sub-count
unfolding told
overflow_sub-count c =
    let found = sym c.next_line-line.ensures ∙ c.in-Found.is in
    (step_line _ _ _ _ found _ c.characters-chars.ensures (c.in_ok-judge.ensures {u = tt})).long

pub write_digits-requires : goal.write_digits-requires
unfolding told
write_digits-requires c =
    let found = sym c.next_line-line.ensures ∙ c.in-Found.is in
    let r = step_line _ _ _ _ found _ c.characters-chars.ensures (c.in_ok-judge.ensures {u = tt}) in
    (r.few, r.counted)

pub returns : goal.returns
unfolding told step_told
returns c =
    let found = sym c.next_line-line.ensures ∙ c.in-Found.is in
    let r = step_line _ _ _ _ found _ c.characters-chars.ensures (c.in_ok-judge.ensures {u = tt}) in
    record { value = r.told; digits_after = c.write_digits.ensures ∙ sym (ap (sets _ 0) r.stored) }
