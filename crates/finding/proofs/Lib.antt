-- Laws of this crate: `NodeLine`, of a node's mark by the bytes of its line; `FoundLaws`, that a node has a mark exactly where its line
-- has its number and a place that is its.
pub mod NodeLine
pub mod FoundLaws
