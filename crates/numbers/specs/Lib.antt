-- What a line's characters stand for. Below: `code`, mirrors of code.
pub mod code
