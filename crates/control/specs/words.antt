-- Layouts of words and invariants: `Control`, how they hold a control; `Sums`, counts that stop at 65,535; `Views`,
-- what they tell of a track; `Words`, the words of a reference and of a track.
pub mod Control
pub mod Sums
pub mod Views
pub mod Words
