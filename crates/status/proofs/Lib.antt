-- Laws of the status: `Returns` of what it is at each test, `Runs` of a run's status.
pub mod Returns
pub mod Runs
