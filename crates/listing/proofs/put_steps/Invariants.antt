-- `listing::put_steps` meets its contract. The loop's invariant is `Going`: what the script comes to is what
-- the lines from the cursor on come to, behind the events whose lines are put, and the way out and each turn is
-- a law of it. The measure is what is left of the script. Assumes nothing.
use Rattle.std.proofs.Common.{◌-◌, length}
use Rattle.listing.proofs.Stepping.{Going}
use Rattle.listing.proofs.put_steps.Given as goal

abbrev pub invariant-loop-step : goal.invariant-loop-step
invariant-loop-step l = Going l.show.plan l.show.table.payloads l.script l.initial.run.words.nodes l.initial.run.words.track l.initial.run.counters l.initial.out l.run.words.nodes l.run.words.track l.run.counters l.out l.digits l.at l.line l.end

abbrev pub decreases-loop-step : goal.decreases-loop-step
decreases-loop-step l = length l.script - l.at
