-- Layouts of words and invariants: `Puts`, what is put from a cursor on, and how far a cursor may have come.
pub mod Puts
