-- The customer's demands through the doors. Meaning: `Ahead`, states further on in a run. Below: `words`, layouts of
-- words and invariants.
pub mod Ahead
pub mod words
