-- Lines of hexadecimal. Meaning: `Line`, what a text of lines says; `Refusal`, document 01's refusals by their numbers; `Judging`, how
-- lines are judged until the first that fails. Below: `code`, mirrors of code.
pub mod Line
pub mod Refusal
pub mod Judging
pub mod code
