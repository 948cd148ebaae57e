-- Laws of saving: `MarkLaws`, of the marks that are taken from a run's nodes; `NumberLaws`, of the numbers that
-- the walk gives and the pairs by them; `NumberedTold`, that the columns of a graph by its numbers tell its
-- canonical graph; `SavedTold`, that a run's words are saved as its track's text; `Promises`, what saving owes;
-- and `Assembled`, that the calls of saving come to it.
pub mod MarkLaws
pub mod NumberLaws
pub mod NumberedTold
pub mod SavedTold
pub mod Promises
pub mod Assembled
