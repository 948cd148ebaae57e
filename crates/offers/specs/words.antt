-- Layouts of words and invariants: `Told`, what the answers are of a control that the words hold.
pub mod Told
