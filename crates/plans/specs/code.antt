-- Mirrors of code: `Laid`, the plan that is laid out.
pub mod Laid
