-- Laws of this crate: `LookLaws`, of what is looked up, by what its tests found.
pub mod LookLaws
