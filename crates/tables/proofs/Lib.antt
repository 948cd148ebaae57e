-- Laws of this crate: `Told`, of what an answer tells; `Kept`, of what the loop keeps; `Judged`, of a line's turn; `Loop`, of all
-- lines; `Whole`, of the text and the columns; `Cases`, texts judged by computation.
pub mod Told
pub mod Kept
pub mod Judged
pub mod Loop
pub mod Whole
pub mod Cases
