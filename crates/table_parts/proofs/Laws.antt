-- What checking a table into its block tells, by what the calls on the way promise. Assumes nothing.
use Rattle.std.proofs.Common.{ℕ, ◌≡◌, List, [], ◌∷◌}
use Rattle.lines.specs.Judging.{Judged}
use Rattle.columns.specs.words.Columns.{Columns}
use Rattle.tables.specs.Table.{Sofar}
use Rattle.tables.specs.words.Columns.{with_columns, outcome}
use Rattle.tables.specs.declared.TableCounts.{TableCounts}
use Rattle.tables.specs.Checked.{Checked}
use Rattle.tables.specs.Checked as Table
use Rattle.plans.specs.code.Laid.{laid_out}
use Rattle.answers.specs.Numbers as told
use Rattle.answers.specs.words.Blocks.{table_stamp}
use Rattle.table_parts.specs.code.TableTold as host

module _ (head plan : List ℕ) (c d : Columns) (j : Judged Sofar) (a : Checked) (so : with_columns a d ≡ outcome c j) (line : ℕ)
    (line_is : line ≡ told.line_of_checked a) where
  pub table_refused : (r : ℕ) → r ≡ told.of_checked a → (n l : ℕ) → a ≡ Table.Refused n l
      → host.with_table r line head d plan ≡ host.checked head c plan j
  unfolding host.checked host.head_after host.plan_after
  table_refused r r_is n l is = rw (r_is, line_is, ← so, is)

  pub table_accepted : (counts : TableCounts) → a ≡ Table.Accepted counts → (plan' : List ℕ)
      → plan' ≡ laid_out counts.terms d.kinds d.payloads d.after d.roots
      → host.with_table 0 line
      (table_stamp ∷ counts.definitions ∷ counts.events ∷ counts.terms ∷ []) d plan' ≡ host.checked head c plan j
  unfolding host.checked host.head_after host.plan_after told.of_checked
  table_accepted counts is plan' plan_is = rw (line_is, plan_is, ← so, is)
