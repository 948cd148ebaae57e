-- Laws of this crate: `Laws`, of what the functions tell.
pub mod Laws
