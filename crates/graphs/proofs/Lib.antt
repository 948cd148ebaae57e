-- Laws of saved tracks: `Walking`, the numbering walk over any ways on; `Ordered`, the order of a graph's
-- references, which reaches all of a run's; `References`, references by their numbers; `Pairs`, lists of pairs by
-- what they join; `Rows`, what the rows of a numbered graph list; `Renaming`, a map that carries a graph carries its
-- order; `Canonical`, the graph by its numbers; `Renumbered`, graphs that a renumbering carries to each other;
-- `Literals`, what the table has at a place; `Labels`, where a run's labels stand; `Counted`, labels and arcs by
-- counts; `Tracked`, what a run's track is as a graph; `FrameBytes`, a frame and its bytes; `DueLines`, the frames
-- that are due; `Spelled`, a graph and its text; `Accepted`, the reader's shape of a run's track; `Refusals`, those
-- of a text. The theorems are in `Kept`, what saving and reading keep, and `Exactly`, which runs save equal bytes.
-- `Cases` has document 01's saved texts and the reader's refusals, by computation.
pub mod Walking
pub mod Ordered
pub mod References
pub mod Pairs
pub mod Rows
pub mod Renaming
pub mod Canonical
pub mod Renumbered
pub mod Literals
pub mod Labels
pub mod Counted
pub mod Tracked
pub mod FrameBytes
pub mod DueLines
pub mod Spelled
pub mod Accepted
pub mod Refusals
pub mod Kept
pub mod Exactly
pub mod Cases
