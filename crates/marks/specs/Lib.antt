-- The marks of literals. Below: `words`, layouts of words and invariants; `code`, mirrors of code.
pub mod words
pub mod code
