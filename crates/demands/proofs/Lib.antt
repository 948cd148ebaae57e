-- The demands through the doors: `FromDoors`, what a caller has who has checked a table and laid out its plan; `Derivations`, what a
-- step answers and leaves, by the report's rules; `Statuses`, what a status tells, by the plain rules; `SavedBytes`, what a save leaves in a slice; `Exchanged`, two steps in either
-- order; `Cases`, document 01's cases of two orders; `Reread`, a saved track read and written again; and `WrongPrograms`, outcomes
-- that the promises of a step and of a script's line rule out.
pub mod FromDoors
pub mod SavedBytes
pub mod Exchanged
pub mod Derivations
pub mod Statuses
pub mod Cases
pub mod Reread
pub mod WrongPrograms
