-- What a door owes its caller. Meaning: `Settles`, when a promise allows one outcome only.
pub mod Settles
