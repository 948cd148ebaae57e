-- `answers::length_of` meets its contract: each arm knows what writing came to. Assumes nothing.
use Rattle.std.proofs.Common.{sym, ap}
use Rattle.writing.specs.Answers.{saved_told}
use Rattle.answers.specs.Numbers.{length_of}
use Rattle.answers.proofs.length_of.Goals as goal

pub returns-in-Ok : goal.returns-in-Ok
unfolding length_of saved_told
returns-in-Ok c = sym (ap (λ s. length_of (saved_told s)) c.in-Ok.is)

pub returns-in-Err : goal.returns-in-Err
unfolding length_of saved_told
returns-in-Err c = sym (ap (λ s. length_of (saved_told s)) c.in-Err.is)
