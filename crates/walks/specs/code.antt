-- Mirrors of code: `Walked`, the walk and the numbers that it gives.
pub mod Walked
