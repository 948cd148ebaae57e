-- Layouts of words and invariants: `Held`, what the answers are of a part that words hold.
pub mod Held
