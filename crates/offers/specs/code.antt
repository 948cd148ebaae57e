-- Mirrors of code: `Following`, what following a control downward computes; `Calls`, how many calls that takes.
pub mod Following
pub mod Calls
