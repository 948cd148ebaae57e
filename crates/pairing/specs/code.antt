-- Mirrors of code: `Renumbered`, pairs whose ends have numbers.
pub mod Renumbered
