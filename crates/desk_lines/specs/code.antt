-- Mirrors of code: `Ends`, what stands behind a line's digits.
pub mod Ends
