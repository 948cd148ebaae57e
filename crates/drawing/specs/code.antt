-- Mirrors of code: `Drawing`, labels, arcs, references, event nodes and meetings.
pub mod Drawing
