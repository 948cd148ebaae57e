-- Laws of this crate: `Account`, that a line over the words of a run comes to document 01's account of it; `Laws`, of a
-- script's line, by what its tests found.
pub mod Account
pub mod Laws
