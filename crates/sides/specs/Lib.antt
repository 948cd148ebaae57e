-- The sides of an entered choice or parallel. Below: `code`, mirrors of code.
pub mod code
