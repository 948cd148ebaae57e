-- Layouts of words and invariants: `Kept`, what saving owes a run.
pub mod Kept
