-- What a caller has of a table whose check has accepted it and whose plan is laid out.
use Rattle.std.specs.Prelude.{ℕ, ◌≡◌, List, length}
use Rattle.columns.specs.words.Columns.{Columns}
use Rattle.tables.specs.Table.{Sofar}
use Rattle.tables.specs.words.Columns.{TableOf}
use Rattle.tables.specs.declared.TableCounts.{TableCounts}
use Rattle.terms.specs.Term.{definitions_of}
use Rattle.demands.specs.words.Words.{Planned}

-- the table of a text, in its columns and its plan, with as many definitions as the check has told
pub record CheckedAndLaid (text : List ℕ) (c : Columns) (p : List ℕ) (n : TableCounts) : Type 0 where
  pub table : Sofar
  pub columns_hold : TableOf text c table
  pub planned : Planned p c.payloads table
  pub definitions_are : n.definitions ≡ length (definitions_of table)
