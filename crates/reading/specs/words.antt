-- Layouts of words and invariants: `Kept`, what reading owes for the columns of a checked table.
pub mod Kept
