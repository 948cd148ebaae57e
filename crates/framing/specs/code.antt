-- Mirrors of code: `Placed`, what an answer of `places::place` tells.
pub mod Placed
