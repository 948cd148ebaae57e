-- Laws of parts: `Returns` of what the definitions of the code are at each test, `Held` of what stands in a part
-- that words hold, and of its sides.
pub mod Returns
pub mod Held
