-- Layouts of words and invariants: `Account`, what playing a line owes a run.
pub mod Account
