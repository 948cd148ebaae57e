-- A saved text read. Meaning: `Answers`, what answers tell. Below: `words`, layouts of words and invariants; `code`, mirrors of
-- code.
pub mod Answers
pub mod words
pub mod code
