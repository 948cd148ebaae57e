-- The tracking program's listing. Meaning: `Listing`, document 01's account, from bytes to bytes. Below: `code`,
-- mirrors of code.
pub mod Listing
pub mod code
