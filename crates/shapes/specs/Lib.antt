-- The shape of a saved track. Below: `code`, mirrors of code.
pub mod code
