-- One outcome for each call of a public function: `Settling`, why an equation settles it; `Doors`, a law for each door; `Inner`, one
-- for each function that is none; `Hosts`, one for each that a host's calls go through.
pub mod Settling
pub mod Doors
pub mod Inner
pub mod Hosts
