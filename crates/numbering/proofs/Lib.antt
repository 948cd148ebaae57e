-- Laws of this crate: `Assembled`, of the whole graph by its numbers.
pub mod Assembled
