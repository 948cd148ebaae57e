-- Laws of the words of a run: `Laws`, of a word in range and out of it; `NodeLaws`, of the words after one is put;
-- `Framed`, of what a control does not go by; `Chains`, of the sequences around what is held; `TermOnce` and `HeldOnce`,
-- that a plan holds one term and the words one control; `Sums`, of a number that is not 0; `Capped`, that counts that stop add up
-- and multiply as what they count does.
pub mod Laws
pub mod NodeLaws
pub mod Framed
pub mod Chains
pub mod TermOnce
pub mod HeldOnce
pub mod Capped
pub mod Sums
