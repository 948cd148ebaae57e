-- A script's line played. Meaning: `LineAnswer`, what a line comes to in a state; `Played`, what is told of it. Below: `words`,
-- layouts of words and invariants; `code`, mirrors of code.
pub mod Played
pub mod LineAnswer
pub mod words
pub mod code
