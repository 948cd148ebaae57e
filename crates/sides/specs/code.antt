-- Mirrors of code: `Sides`, entering them, and what their steps make of it.
pub mod Sides
