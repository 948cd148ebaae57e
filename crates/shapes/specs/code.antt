-- Mirrors of code: `Rules`, the reader's rules by marks.
pub mod Rules
