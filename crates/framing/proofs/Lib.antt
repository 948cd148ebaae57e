-- Laws of this crate: `Spelt`, of the lines that are put.
pub mod Spelt
