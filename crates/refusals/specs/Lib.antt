-- A table's lines judged. Below: `code`, mirrors of code.
pub mod code
