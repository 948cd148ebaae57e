-- A graph in columns by its numbers. Below: `code`, mirrors of code.
pub mod code
