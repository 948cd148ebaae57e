-- Mirrors of code: `Characters`, runs of digits and parts of a text.
pub mod Characters
