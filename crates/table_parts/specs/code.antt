-- Mirrors of code: `TableTold`, what the functions come to.
pub mod TableTold
