-- Laws of this crate: `Frames`, of a line's characters as a frame.
pub mod Frames
