-- What a host is told. Meaning: `Numbers`, the number of each value of each answer; `Numbered`, what an answer tells whose refusal
-- is a number. Below: `words`, layouts of words.
pub mod Numbers
pub mod Numbered
pub mod words
