-- Laws of this crate: `RuleLaws`, of each rule, by what its tests found.
pub mod RuleLaws
