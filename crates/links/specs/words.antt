-- Layouts of words and invariants: `Columns`, the words of a graph in columns; `Cleared`, room to work in behind a save or a read.
pub mod Cleared
pub mod Columns
