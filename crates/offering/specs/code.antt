-- Mirrors of code: `Offering`, what is offered by a kind, by two sides and inside a sequence.
pub mod Offering
