-- Laws of this crate: `Laws`, of a word in range and out of it.
pub mod Laws
