-- A table's text. Meaning: `Table`, what a table's text says and which refusal it meets; `Checked`, what the answer of its
-- check tells. Below: `words`, layouts of words and invariants.
pub mod Checked
pub mod Table
pub mod words
