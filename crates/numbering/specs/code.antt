-- Mirrors of code: `Numbered`, the graph by the numbers of the walk.
pub mod Numbered
