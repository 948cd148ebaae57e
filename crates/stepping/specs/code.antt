-- Mirrors of code: `Take`, the whole step.
pub mod Take
