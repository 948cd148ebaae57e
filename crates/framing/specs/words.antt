-- Layouts of words and invariants: `Told`, the graph that columns tell.
pub mod Told
