-- `writing::refusal_of` meets its contract: each arm knows the variant, and its number is what `refusal` has
-- for it. Assumes nothing.
use Rattle.std.proofs.Common.{sym, ap}
use Rattle.lines.specs.Refusal.{number, met}
use Rattle.writing.specs.Answers.{saved_told}
use Rattle.writing.specs.words.Slice.{refusal}
use Rattle.writing.proofs.refusal_of.Goals as goal

pub returns-in-Ok : goal.returns-in-Ok
unfolding met saved_told refusal
returns-in-Ok c = sym (ap (λ s. refusal (saved_told s)) c.in-Ok.is)

pub returns-in-Err : goal.returns-in-Err
unfolding number met saved_told refusal
returns-in-Err c = sym (ap (λ s. refusal (saved_told s)) c.in-Err.is)
