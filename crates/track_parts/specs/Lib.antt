-- Tracks by the parts of blocks. Mirrors of code: `code`.
pub mod code
