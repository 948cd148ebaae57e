-- Layouts of words and invariants: `Told`, what the answer is of a control that words hold.
pub mod Told
