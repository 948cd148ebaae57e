-- A program's input. Meaning: `Cut`, where a table's text ends and the script begins. Below: `code`, mirrors of code.
pub mod Cut
pub mod code
