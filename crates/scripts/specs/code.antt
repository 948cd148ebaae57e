-- Mirrors of code: `Answers`, what private functions answer.
pub mod Answers
