-- Mirrors of code: `Phases`, what lines that are due come to; `Ends`, the first and the last line.
pub mod Phases
pub mod Ends
