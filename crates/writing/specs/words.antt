-- Layouts of words and invariants: `Slice`, what a text and a slice come to.
pub mod Slice
