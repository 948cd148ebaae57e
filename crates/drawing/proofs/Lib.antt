-- Laws of this crate: `Laws`, of what a step writes, by what its tests found.
pub mod Laws
