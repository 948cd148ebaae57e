-- Mirrors of code: `Numbers`, bytes and numbers, whatever the characters are.
pub mod Numbers
