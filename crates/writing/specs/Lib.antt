-- A graph written. Meaning: `Answers`, what answers tell. Below: `words`, layouts of words and invariants.
pub mod Answers
pub mod words
