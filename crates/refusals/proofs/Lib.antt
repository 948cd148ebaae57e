-- Laws of this crate: `Cursor`, of what a text says at a cursor; `Fine`, of what is known where it meets none;
-- `Told`, of what an answer tells.
pub mod Cursor
pub mod Fine
pub mod Told
