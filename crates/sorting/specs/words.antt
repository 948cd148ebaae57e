-- Layouts of words and invariants: `Keyed`, what pairs are sorted by, and the words that count them.
pub mod Keyed
