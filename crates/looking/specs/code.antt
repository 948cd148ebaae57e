-- Mirrors of code: `Looking`, what is looked up, whatever the words hold.
pub mod Looking
