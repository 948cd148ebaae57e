-- Laws of the walk over a graph in columns: `Numbering`, numbers given one after the other; `Turns`, the turns of the
-- walk; and what the marks tell: `SideLaws`, which numbers stand in a term's sides; `Telling`, the graph that marks
-- tell; `LinkedWords`, the words of linked sides; `LinkTold`, that linking and walking the columns is linking and
-- walking that graph.
pub mod Numbering
pub mod Turns
pub mod SideLaws
pub mod Telling
pub mod LinkedWords
pub mod LinkTold
