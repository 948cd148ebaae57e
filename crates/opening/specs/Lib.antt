-- A saved text's lines that are due, and its first and last line. Meaning: `Answers`, what answers tell. Below: `code`, mirrors
-- of code.
pub mod Answers
pub mod code
