-- `desk_lines::behind_end` meets its contract: the tests tell what stands at the end of the digits, and behind a CR there. Assumes
-- nothing.
use Rattle.std.proofs.Common.{◌<◌, sym, ◌∙◌, arith, length}
use Rattle.std.proofs.lemmas.Grind.{common_steps}
use Rattle.desk_lines.proofs.Ends.{behind_nothing, behind_LF, behind_other, behind_CR_LF, behind_CR_alone}
use Rattle.desk_lines.proofs.behind_end.Goals as goal

pub returns-in_err-get : goal.returns-in_err-get
returns-in_err-get c = c.from_residual.ensures ∙ sym (behind_nothing _ _ (grind (arith, common_steps)))

pub returns-in-10 : goal.returns-in-10
returns-in-10 c = sym (behind_LF _ _ (grind (arith, common_steps)) (grind (arith, common_steps)))

pub returns-in-13 : goal.returns-in-13
returns-in-13 c =
    let more : c.args.end < length c.args.text.now = grind (arith, common_steps) in
    sym (behind_CR_LF _ _ more (grind (arith, common_steps)) (grind (arith, common_steps)) (grind (arith, common_steps)))

pub returns-in_default : goal.returns-in_default
returns-in_default c =
    let more : c.args.end < length c.args.text.now = grind (arith, common_steps) in
    sym (behind_CR_alone _ _ more (grind (arith, common_steps)) (λ l q. grind (arith, common_steps)))

pub returns-in_default-2 : goal.returns-in_default-2
returns-in_default-2 c =
    sym (behind_other _ _ (grind (arith, common_steps)) (λ q. grind (arith, common_steps)) (λ q. grind (arith, common_steps)))
