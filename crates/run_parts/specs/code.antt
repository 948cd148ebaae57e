-- Mirrors of code: `RunTold`, what the functions come to.
pub mod RunTold
