-- A saved text's nodes. Below: `code`, mirrors of code.
pub mod code
