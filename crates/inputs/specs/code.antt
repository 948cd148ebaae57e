-- Mirrors of code: `Lengths`, how long a line is.
pub mod Lengths
