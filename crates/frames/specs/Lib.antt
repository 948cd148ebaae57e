-- The frames of a table. Meaning: `TableFrame`, the frames, and the number of refusal that each meets.
pub mod TableFrame
