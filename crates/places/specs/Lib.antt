-- Places of literals. Meaning: `Place`, document 01's account. Below: `code`, mirrors of code.
pub mod Place
pub mod code
