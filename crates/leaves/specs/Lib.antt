-- The steps that look no further down. Below: `code`, mirrors of code.
pub mod code
