-- Laws of this crate: `Laws`, of the sides, by what their tests found.
pub mod Laws
