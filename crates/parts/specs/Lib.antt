-- The standing parts of a control. Below: `Parts`, what they are; `words`, layouts of words and invariants; `code`,
-- mirrors of code.
pub mod Parts
pub mod words
pub mod code
