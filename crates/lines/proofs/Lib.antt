-- Laws of lines: `Choosing` of one of two, `Digits` of runs of digits, `Runs` where they end, `Laws` what a caller of the functions may rely on, `Judging` of lines
-- that are judged one by one, `Refusals` that a number tells one refusal, `Written` that a text of frames reads back as those frames; and `Typed`, how texts
-- are typed in cases.
pub mod Choosing
pub mod Digits
pub mod Runs
pub mod Laws
pub mod Judging
pub mod Refusals
pub mod Written
pub mod Typed
