-- Layouts of words and invariants: `Node`, what a node's bytes say.
pub mod Node
