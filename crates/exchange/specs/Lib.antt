-- Two steps exchanged. Meaning: `Renamed`, a process with other reference numbers; `Opposite`, which two steps may be
-- exchanged; `Orders`, what comes of both orders.
pub mod Renamed
pub mod Opposite
pub mod Orders
