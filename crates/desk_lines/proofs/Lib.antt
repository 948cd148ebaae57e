-- Laws of desks' lines: `Capitals` of single characters, `Ends` of a line's end, `Finding` of the answer by what stands behind
-- a run of digits, `Laws` what a caller of the finder may rely on; `Spelling` of the strict spelling of a line, `Respelling`
-- of a text's.
pub mod Capitals
pub mod Ends
pub mod Finding
pub mod Laws
pub mod Spelling
pub mod Respelling
