-- Laws of a run's doors. Of the code: `Laws`, of a step by what its tests found. That lent words hold a run, and that
-- the answers are document 01's: `Starting`, a run that has just been started; `Reading` and `Stopping`, digits as an
-- address; `Spelled`, addresses as digits; `Rooms`, `Weights`, what is weighed; `Defined`, that the table has what control
-- calls; `FewMet`, `Keeping`, `Calling`, `Performing`, the words behind a step; `Answering`, where the answer and the words
-- behind it are document 01's; `Once`, one run in the same words, its control included; `Promises`, what the doors promise
-- of a run; `Tabled`, that a checked table's plan is one of theirs.
pub mod Starting
pub mod Reading
pub mod Stopping
pub mod Spelled
pub mod Rooms
pub mod Weights
pub mod Defined
pub mod FewMet
pub mod Keeping
pub mod Calling
pub mod Performing
pub mod Answering
pub mod Once
pub mod Promises
pub mod Tabled
pub mod Laws
