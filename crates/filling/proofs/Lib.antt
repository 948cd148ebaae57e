-- Laws of this crate: `Rooms`, of what is within its room; `Taken`, of taking a term in; `Walked`, of the preorder
-- walk.
pub mod Rooms
pub mod Taken
pub mod Walked
