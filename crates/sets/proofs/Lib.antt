-- Laws of sets of events: `Bits` of the members of a number by its bits, `Told` of a set by its members
-- alone; `Members` of a set's number and its events.
pub mod Bits
pub mod Told
pub mod Members
