-- A run's doors. Meaning: `Answer`, what an address comes to. Below: `words`, layouts of words and invariants; `code`, mirrors
-- of code.
pub mod Answer
pub mod words
pub mod code
