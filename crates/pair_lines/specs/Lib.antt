-- A saved text's pairs. Below: `code`, mirrors of code.
pub mod code
