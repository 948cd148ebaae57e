-- Laws of the reader's rules: `WalkOrder`, when the numbers of a walk are in order, and `ShapeTested`, all the rules, of a graph in
-- columns.
pub mod WalkOrder
pub mod ShapeTested
