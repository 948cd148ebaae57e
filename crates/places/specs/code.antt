-- Mirrors of code: `Descent`, following terms downward, whatever the columns hold.
pub mod Descent
