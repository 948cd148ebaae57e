-- Laws of this crate: `KindLaws`, of the largest payload and the most subterms.
pub mod KindLaws
