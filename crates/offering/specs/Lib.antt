-- What is offered, as a value. Below: `code`, mirrors of code.
pub mod code
