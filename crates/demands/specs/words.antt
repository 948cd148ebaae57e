-- Layouts of words and invariants: `Bytes`, what a save has left in a slice; `Words`, what the doors promise of a
-- run's words, and `Statuses`, what is told of their status; `Laid`, a table that is checked and laid out; `Accepts`, an accepted step and an accepted line of a script through
-- their doors; `Behind`, what two runs have in common behind both orders.
pub mod Bytes
pub mod Words
pub mod Statuses
pub mod Laid
pub mod Accepts
pub mod Behind
