-- Layouts of words and invariants: `Held`, what it is for lent words to hold a run, and what the doors owe one.
pub mod Held
