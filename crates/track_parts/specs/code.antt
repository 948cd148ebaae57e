-- Mirrors of code: `TrackTold`, what the functions come to.
pub mod TrackTold
