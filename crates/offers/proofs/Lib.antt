-- Laws of offers: `Returns` of what the definitions of the code are at each test, `Untouched` of terms that no
-- step has touched, `Standing` of the control that stands at a reference, `Runs` of a run's offers, `Bounded` of how
-- many calls they take.
pub mod Returns
pub mod Untouched
pub mod Standing
pub mod Runs
pub mod Bounded
