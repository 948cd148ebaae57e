-- Mirrors of code: `Sorted`, pairs in the order of their keys.
pub mod Sorted
