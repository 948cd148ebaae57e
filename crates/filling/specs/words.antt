-- Layouts of words and invariants: `Preorder`, the column `after`.
pub mod Preorder
