-- The terms of a table as trees. Meaning: `Term`, the trees, in preorder. Below: `words`, layouts of words and
-- invariants.
pub mod Term
pub mod words
