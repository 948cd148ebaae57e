-- Laws of this crate: `Laws`, of the lines that are put.
pub mod Laws
