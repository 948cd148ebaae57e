-- `answers::unready` meets its contract, by the two stamps. Assumes nothing.
use Rattle.answers.proofs.Blocks.{no_table_told, no_run_told, filled_told}
use Rattle.answers.proofs.unready.Goals as goal

pub returns-then-table-ne-TABLE_STAMP : goal.returns-then-table-ne-TABLE_STAMP
returns-then-table-ne-TABLE_STAMP c = no_table_told _ _ c.if-table-ne-TABLE_STAMP.true

pub returns-then-run-ne-RUN_STAMP : goal.returns-then-run-ne-RUN_STAMP
returns-then-run-ne-RUN_STAMP c = no_run_told _ _ c.if-table-ne-TABLE_STAMP.false c.if-run-ne-RUN_STAMP.true

pub returns : goal.returns
returns c = filled_told _ _ c.if-table-ne-TABLE_STAMP.false c.if-run-ne-RUN_STAMP.false
