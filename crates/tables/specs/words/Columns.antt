-- Where a checked table goes: a column for each thing that is known of a term, its number in preorder over
-- the whole table, and one for the definitions' roots. A refused table leaves the columns as they were.
use Rattle.std.specs.Prelude.{ℕ, ◌-◌, List, ◌++◌, map, length, replicate, ◌≡◌}
use Rattle.frames.specs.TableFrame.{term_room, definition_room}
use Rattle.lines.specs.Judging.{Judged, accepted, refused}
use Rattle.tables.specs.Table.{Item, Sofar, judged}
use Rattle.tables.specs.declared.TableCounts.{TableCounts}
use Rattle.tables.specs.Checked.{Checked, Accepted, Refused}
use Rattle.filling.specs.words.Preorder.{walked}
use Rattle.columns.specs.words.Columns.{Columns, all_columns}

-- some numbers in an array of n, zeros behind them
unfoldable pub column : ℕ → List ℕ → List ℕ
column n xs = xs ++ replicate (n - length xs) 0

unfoldable pub kinds : Sofar → List ℕ
kinds s = column term_room (map (λ (i : Item). i.kind) s.terms)

unfoldable pub payloads : Sofar → List ℕ
payloads s = column term_room (map (λ (i : Item). i.payload) s.terms)

-- the definition that each term stands in
unfoldable pub owners : Sofar → List ℕ
owners s = column term_room (map (λ (i : Item). i.definition) s.terms)

-- the number of each definition's root
unfoldable pub roots : Sofar → List ℕ
roots s = column definition_room s.roots

unfoldable pub afters : Sofar → List ℕ
afters s = walked (length s.terms) (kinds s) (replicate term_room 0)

-- the five columns of a table
abbrev pub columns_of : Sofar → Columns
columns_of s = all_columns (kinds s) (payloads s) (owners s) (afters s) (roots s)

-- how much it holds
abbrev pub table_counts : Sofar → TableCounts
table_counts s = record { definitions = s.definitions; events = s.events; terms = length s.terms }

-- the answer: the table's counts, or the paper's number of the refusal and its line
unfoldable pub answer : Judged Sofar → Checked
answer (accepted s) = Accepted (table_counts s)
answer (refused n l) = Refused n l

-- an answer, with the columns after it
pub record Outcome : Type 0 where
  pub answer : Checked
  pub columns : Columns

abbrev pub with_columns : Checked → Columns → Outcome
with_columns r c = record { answer = r; columns = c }

-- what a text comes to: the table's counts and columns; or the refusal, with the columns as they were
unfoldable pub outcome : Columns → Judged Sofar → Outcome
outcome c (accepted s) = with_columns (answer (accepted s)) (columns_of s)
outcome c (refused n l) = with_columns (answer (refused n l)) c

-- columns that the check of a table's text has left
pub record TableOf (text : List ℕ) (c : Columns) (s : Sofar) : Type 0 where
  pub checked : judged text ≡ accepted s
  pub columns_are : c ≡ columns_of s
