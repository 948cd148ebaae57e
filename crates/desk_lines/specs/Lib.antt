-- Lines as a desk writes them. Meaning: `DeskLine`, what a line of a table or a script is; `Respelled`, a text in its strict
-- spelling. Below: `code`, mirrors of code.
pub mod DeskLine
pub mod Respelled
pub mod code
