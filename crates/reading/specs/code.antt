-- Mirrors of code: `Outcome`, what reading comes to, whatever the columns hold.
pub mod Outcome
