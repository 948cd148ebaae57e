-- `refusals::refusal` meets its contract: a frame that is of no line behind line 1 meets the definition's 2, and each other arm
-- has the promise of the function that it calls. Assumes nothing.
use Rattle.std.proofs.Common.{rules}
use Rattle.lines.specs.Refusal.{told, number}
use Rattle.frames.specs.TableFrame.{refusal}
use Rattle.refusals.proofs.refusal.Goals as goal

pub returns-in-Opening : goal.returns-in-Opening
unfolding told number refusal
returns-in-Opening c = search rules
