-- Mirrors of code: `Saving`, what saving comes to, whatever the words hold.
pub mod Saving
