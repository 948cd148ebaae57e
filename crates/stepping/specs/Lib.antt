-- The step of an address taken. Below: `code`, mirrors of code.
pub mod code
