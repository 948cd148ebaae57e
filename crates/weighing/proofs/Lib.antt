-- Laws of weighing. Of the code: `WeighLaws`, of the weight of a term and of a reference; `EndLaws`, of the end of a
-- parallel. Of the report's steps, whose weights these are: `Told`, what a weight tells of a step, with the sequences
-- around it; `SideTold`, a split's step by its sides; `TermTold`, a term that no step has touched; `Since`, the arcs
-- of a run, and those of a step on its way; `ControlTold`, what stands at a reference.
pub mod WeighLaws
pub mod Told
pub mod SideTold
pub mod TermTold
pub mod Since
pub mod ControlTold
pub mod EndLaws
