-- Layouts of words and invariants: `Held`, how columns hold them.
pub mod Held
