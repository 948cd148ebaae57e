-- Laws of a saved track's lines that are due: `Handed`, what a `?` hands on; `Dues`, what a line's bytes meet; `Tested`, what the tests on its characters make of
-- it; `Turns`, the reading a line at a time; and `Work`: the parts of the line reading are document 01's.
pub mod Handed
pub mod Dues
pub mod Tested
pub mod Turns
pub mod Work
