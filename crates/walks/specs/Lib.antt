-- The numbering walk over a graph in columns. Below: `code`, mirrors of code.
pub mod code
