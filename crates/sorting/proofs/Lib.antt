-- Laws of this crate: `Counts`, of the words that count them; `Keys`, of how many pairs have a key; `Ordering`, of
-- what sorting means; `Segments`, of the words that a counting sort puts.
pub mod Counts
pub mod Keys
pub mod Ordering
pub mod Segments
