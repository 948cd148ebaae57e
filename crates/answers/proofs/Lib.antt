-- Laws of this crate: `Blocks`, of what is told of blocks; `Apart`, that a number tells one answer; `Judged`, that a
-- table's text and a saved one are told alike; `Handed`, that an answer handed on by its number tells what it told.
pub mod Blocks
pub mod Apart
pub mod Judged
pub mod Handed
