-- Mirrors of code: `Playing`, what a line comes to, whatever the words hold.
pub mod Playing
