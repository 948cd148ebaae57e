-- Mirrors of code: `Leaves`, what these steps come to.
pub mod Leaves
