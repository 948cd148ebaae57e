-- Mirrors of code: `Linked`, where arcs lead, by the marks of their ends.
pub mod Linked
