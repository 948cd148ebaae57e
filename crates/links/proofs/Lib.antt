-- Laws of this crate: `LinkLaws`, of arcs linked one after the other; `Listed`, of pairs as a track's words list
-- them; `WordLaws`, of a word put.
pub mod LinkLaws
pub mod Listed
pub mod WordLaws
