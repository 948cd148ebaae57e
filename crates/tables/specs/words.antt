-- Layouts of words and invariants: `Columns`, where that goes in lent arrays; `Filled`, what the loop over the lines
-- leaves in them.
pub mod Columns
pub mod Filled
