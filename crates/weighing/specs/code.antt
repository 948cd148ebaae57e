-- Mirrors of code: `Ending`, the end of a parallel; `Weigh`, a term, and what stands at a reference.
pub mod Ending
pub mod Weigh
