-- Mirrors of code: `Status`, the status by what is offered.
pub mod Status
