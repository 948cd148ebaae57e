-- Mirrors of code: `Doors`, what the doors come to, whatever the words hold.
pub mod Doors
