-- Laws of the listing: `Lines`, the lines that are put; `Stepping`, the steps'
-- lines put one behind another; `Played`, that lines over the words of a run come to what document 01 says of them; `Told`, that
-- what is told of a script is its listing; `Whole`, the listing of a run, a script and an input put together; `Fits`, how long a
-- listing may be, and `Front`, how much of an input it depends on; and `Cases`, document 01's cases by computation.
pub mod Lines
pub mod Stepping
pub mod Played
pub mod Told
pub mod Whole
pub mod Fits
pub mod Front
pub mod Cases
