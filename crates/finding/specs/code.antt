-- Mirrors of code: `Found`, the marks of nodes, whatever the columns hold.
pub mod Found
