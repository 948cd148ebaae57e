-- Weighing a step. Below: `code`, mirrors of code.
pub mod code
