-- Mirrors of code: `Taking`, a frame taken in.
pub mod Taking
