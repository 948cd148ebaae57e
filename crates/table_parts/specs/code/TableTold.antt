-- What checking a table into its block comes to, whatever is lent: what the doors below come to, told as a number.
use Rattle.std.specs.Prelude.{ℕ, List, [], ◌∷◌}
use Rattle.lines.specs.Judging.{Judged}
use Rattle.tables.specs.Table.{Sofar}
use Rattle.tables.specs.words.Columns.{Outcome, outcome}
use Rattle.tables.specs.Checked.{Checked}
use Rattle.tables.specs.Checked as Table
use Rattle.columns.specs.words.Columns.{Columns}
use Rattle.plans.specs.code.Laid.{laid_out}
use Rattle.answers.specs.Numbers as told
use Rattle.answers.specs.words.Blocks.{table_stamp}

-- a number and a line, with a table's block
pub record TableTold : Type 0 where
  pub number : ℕ
  pub line : ℕ
  pub head : List ℕ
  pub columns : Columns
  pub plan : List ℕ

abbrev pub with_table : ℕ → ℕ → List ℕ → Columns → List ℕ → TableTold
with_table n line head c plan = record { number = n; line = line; head = head; columns = c; plan = plan }

-- an accepted table's head, and its plan
unfoldable pub head_after : Checked → List ℕ → List ℕ
head_after (Table.Accepted counts) head =
    table_stamp ∷ counts.definitions ∷ counts.events ∷ counts.terms ∷ []
head_after (Table.Refused n line) head = head

unfoldable pub plan_after : Checked → Columns → List ℕ → List ℕ
plan_after (Table.Accepted counts) c plan = laid_out counts.terms c.kinds c.payloads c.after c.roots
plan_after (Table.Refused n line) c plan = plan

abbrev pub table_told : List ℕ → List ℕ → Outcome → TableTold
table_told head plan o =
    with_table (told.of_checked o.answer) (told.line_of_checked o.answer) (head_after o.answer head)
    o.columns (plan_after o.answer o.columns plan)

unfoldable pub checked : List ℕ → Columns → List ℕ → Judged Sofar → TableTold
checked head c plan judged = table_told head plan (outcome c judged)
