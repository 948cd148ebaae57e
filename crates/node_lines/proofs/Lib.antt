-- Laws of a saved track's nodes: `Laws`, what a line meets where a node is due, the reading a line at a time, and that the
-- lines are document 01's.
pub mod Laws
