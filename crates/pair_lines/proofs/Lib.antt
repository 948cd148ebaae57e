-- Laws of a saved track's pairs: `Laws`, what a line meets where a pair is due, the reading a line at a time, and that the
-- lines are document 01's.
pub mod Laws
