-- Laws of scripts: `Judged` of a line's characters, `Steps` of the answer for a line,
-- `Laws` what a caller may rely on.
pub mod Judged
pub mod Steps
pub mod Laws
