-- Weights of steps, rule by rule. Below: `code`, mirrors of code.
pub mod code
