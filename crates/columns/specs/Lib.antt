-- The columns of a checked table. Below: `words`, layouts of words and invariants.
pub mod words
