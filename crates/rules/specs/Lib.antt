-- The report's rules. Meaning: `Process`, what is stepped; `Track`, what a step adds to a track; `Tracking`, Fig. 7;
-- `Plain`, Fig. 3; `Stopping`, which addresses lead to a STOP; `Step`, the step of an address worked out; `Run`, a run with its rooms; `Offers`, what a control
-- offers, and its status; `Addressed`, digits as an address; `Derivation`, the derivations that addresses name.
pub mod Process
pub mod Track
pub mod Tracking
pub mod Plain
pub mod Stopping
pub mod Step
pub mod Run
pub mod Offers
pub mod Addressed
pub mod Derivation
