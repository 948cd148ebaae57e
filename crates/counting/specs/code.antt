-- Mirrors of code: `Counting`, the counters before and after a step.
pub mod Counting
