-- Mirrors of code: `Parts`, what stands in a part and its sides, whatever the words hold.
pub mod Parts
