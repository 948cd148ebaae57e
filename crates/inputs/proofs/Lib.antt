-- Laws of a program's input: `Cutting` of where its table's text ends.
pub mod Cutting
