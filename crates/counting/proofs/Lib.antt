-- Laws of this crate: `Laws`, of the counters, and of the room that a step passes first.
pub mod Laws
