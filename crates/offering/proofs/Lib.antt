-- Laws of what is offered: `Returns` of what the definitions of the code are at each test, `Once` that what is told
-- allows one answer.
pub mod Returns
pub mod Once
