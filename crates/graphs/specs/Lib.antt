-- Tracks as graphs, saved and read. Meaning: `Graph`, a track as a graph; `Walk`, the numbering walk; `Saved`, the
-- graph by its numbers and its text; `Parsed`, what a saved text says line by line; `Shape`, the reader's rules;
-- `Refusal`, what a saved text is refused with; `Renumbering`, a renumbering of tracks.
pub mod Graph
pub mod Walk
pub mod Saved
pub mod Parsed
pub mod Shape
pub mod Refusal
pub mod Renumbering
