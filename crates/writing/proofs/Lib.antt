-- Laws of this crate: `Whole`, of the text of a graph and of the answer.
pub mod Whole
