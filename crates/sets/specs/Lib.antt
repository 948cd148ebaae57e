-- Sets of events. Meaning: `Told`, sets told by their members; `EventSet`, a set and its members.
pub mod Told
pub mod EventSet
