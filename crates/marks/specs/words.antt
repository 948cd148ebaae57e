-- Layouts of words and invariants: `Mark`, how a number tells a literal.
pub mod Mark
