-- The counters of a run, and its rooms. Below: `code`, mirrors of code.
pub mod code
