-- Laws of spelling: `Putting` of characters put into a slice, `Spelt` of numbers and lines put by their bytes.
pub mod Putting
pub mod Spelt
