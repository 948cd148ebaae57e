-- What a step writes. Below: `code`, mirrors of code.
pub mod code
