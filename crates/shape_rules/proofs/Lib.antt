-- Laws of this crate: `RuleTests`, rules tested one item after the other.
pub mod RuleTests
