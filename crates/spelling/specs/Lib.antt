-- Bytes spelled as hexadecimal. Below: `words`, layouts of words and invariants.
pub mod words
