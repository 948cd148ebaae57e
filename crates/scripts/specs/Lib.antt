-- A script's lines. Meaning: `Script`, what a script's lines ask for; `ScriptStep`, by which answer. Below: `code`, mirrors of
-- code.
pub mod ScriptStep
pub mod Script
pub mod code
