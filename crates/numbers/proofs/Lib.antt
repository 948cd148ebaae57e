-- Laws of this crate: `Digits`, of what a digit counts; `Laws`, of bytes and numbers as a caller may rely on them.
pub mod Digits
pub mod Laws
