-- Mirrors of code: `Told`, what the functions below the door come to.
pub mod Told
