-- `inputs::table_and_script` meets its contract: the table's text ends inside the input.
use Rattle.inputs.proofs.Cutting.{table_within}
use Rattle.inputs.specs.Cut.{table_text, script_text}
use Rattle.inputs.proofs.table_and_script.Goals as goal

pub split_at-requires : goal.split_at-requires
split_at-requires c = rw c.table_end.ensures (table_within _)

pub returns-clause-table : goal.returns-clause-table
unfolding table_text
returns-clause-table c = rw (← c.table_end.ensures) c.split_at.ensures.front

pub returns-clause-script : goal.returns-clause-script
unfolding script_text
returns-clause-script c = rw (← c.table_end.ensures) c.split_at.ensures.back
