-- The words of a run. Below: `words`, layouts of words and invariants.
pub mod words
