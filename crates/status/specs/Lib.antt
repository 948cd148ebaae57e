-- The status of a run. Below: `words`, layouts of words and invariants; `code`, mirrors of code.
pub mod words
pub mod code
