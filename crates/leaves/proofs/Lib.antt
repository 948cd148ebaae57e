-- Laws of this crate: `Laws`, of each step, by what its tests found.
pub mod Laws
