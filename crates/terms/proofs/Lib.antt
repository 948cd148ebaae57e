-- Laws of a checked table: `Trees` of its terms as trees in preorder, `Held` of those trees in the columns.
pub mod Trees
pub mod Held
