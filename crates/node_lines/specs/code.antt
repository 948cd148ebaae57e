-- Mirrors of code: `Nodes`, what the nodes' lines come to.
pub mod Nodes
