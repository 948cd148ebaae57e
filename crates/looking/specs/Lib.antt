-- What a step looks up on its way. Below: `code`, mirrors of code.
pub mod code
