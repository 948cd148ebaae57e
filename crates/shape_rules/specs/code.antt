-- Mirrors of code: `Tests`, the rules by marks.
pub mod Tests
