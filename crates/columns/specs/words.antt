-- Layouts of words and invariants: `Columns`, the columns, and what one has at a number; `Held`, the columns that a table holds.
pub mod Columns
pub mod Held
