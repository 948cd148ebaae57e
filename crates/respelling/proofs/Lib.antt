-- Laws of texts in their strict spelling: `Wording`, that the lines of tables and scripts are those of the request's words; `Cut`,
-- where an input is cut into table and script; `Respelled`, that a text and its strict spelling get the same answer.
pub mod Wording
pub mod Cut
pub mod Respelled
