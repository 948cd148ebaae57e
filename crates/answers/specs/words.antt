-- Layouts of words: `Blocks`, the blocks of a host, and what is told where one is not filled.
pub mod Blocks
