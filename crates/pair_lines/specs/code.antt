-- Mirrors of code: `Pairs`, what the pairs' lines come to.
pub mod Pairs
