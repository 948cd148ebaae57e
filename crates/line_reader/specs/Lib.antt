-- What stands at a cursor, by the kind of text. Meaning: `Spelling`.
pub mod Spelling
