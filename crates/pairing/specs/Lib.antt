-- Pairs by their numbers. Below: `code`, mirrors of code.
pub mod code
