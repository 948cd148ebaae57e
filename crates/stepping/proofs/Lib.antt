-- Laws of this crate: `Laws`, of the step, by what its tests found.
pub mod Laws
