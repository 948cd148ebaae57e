-- Laws of this crate: `Renumbering`, of pairs by the numbers of their ends.
pub mod Renumbering
