-- Mirrors of code: `Followed`, the mark at a path, whatever the columns hold.
pub mod Followed
