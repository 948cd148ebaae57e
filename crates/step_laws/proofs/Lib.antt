-- That the step which the words take is the step of the rules, in `Taking`. What the words tell of a track and of a
-- reference: `TrackLaws`, `TrackLoops`, `NodeViews`. What a part of a step writes: `Writing`, and `Parts` of the
-- small writes. What a step owes the rules: `Going`. `Settling` of a ✓ inside sequences, `LeavesGo` of the steps that
-- look no further down, `Sequences` of entering a sequence. Of choices and parallels: `Drawing` of what a derivation
-- draws, `Depths` of how deep a step goes, `Opening`, `Entering` and `Starting` of their sides, `OneSide` and
-- `Dropping` of one side's step, `BothSides` and `Joining` of a joint step, `Ending` of two ended sides, `SideParts`
-- and `SplitStep` of the rules' account of them, `Sideless` of references without a label, `Splitting`, `SplitBoth`
-- and `SplitTaken` of all these by a digit. `Nesting` of sequences around a part.
pub mod TrackLaws
pub mod TrackLoops
pub mod NodeViews
pub mod Writing
pub mod Going
pub mod Parts
pub mod Settling
pub mod LeavesGo
pub mod Drawing
pub mod Opening
pub mod Entering
pub mod Starting
pub mod OneSide
pub mod Dropping
pub mod BothSides
pub mod Joining
pub mod Ending
pub mod SideParts
pub mod Sideless
pub mod SplitStep
pub mod Sequences
pub mod Nesting
pub mod Depths
pub mod Splitting
pub mod SplitBoth
pub mod SplitTaken
pub mod Taking
