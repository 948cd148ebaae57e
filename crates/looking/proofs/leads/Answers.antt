-- `looking::leads` meets its contract, by the first reference and then the second. Assumes nothing.
use Rattle.std.proofs.Common.{rules}
use Rattle.looking.specs.code.Looking.{leads}
use Rattle.looking.proofs.leads.Goals as goal

pub returns-then-to-first : goal.returns-then-to-first
unfolding leads
returns-then-to-first c = search rules

pub returns-else-to-first : goal.returns-else-to-first
unfolding leads
returns-else-to-first c = search rules
