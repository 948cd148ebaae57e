-- Laws of plans: `Laws` of their words; of laying one out, `Laid` a return at a time, `LaidTurn` of what a
-- term's turn leaves, `LaidPlaces` of where terms stand, `LaidTrees` of a tree's turns, `LaidTable`: the plan of
-- a checked table holds it, `LaidMarks` of what a place of its layout tells, and `LaidRooms` of what it has room
-- for.
pub mod Laws
pub mod Laid
pub mod LaidTurn
pub mod LaidPlaces
pub mod LaidTrees
pub mod LaidTable
pub mod LaidMarks
pub mod LaidRooms
