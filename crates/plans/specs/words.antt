-- Layouts of words and invariants: `Layout`, where the terms of a checked table stand; `Plan`, a plan word by word,
-- and what it is to hold a table's terms.
pub mod Layout
pub mod Plan
