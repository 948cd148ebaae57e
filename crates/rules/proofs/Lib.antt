-- Laws of the report's rules: `Derived`, the step of an address is the derivation that it names; `Answered`,
-- when an address is accepted and which refusal it meets otherwise; `Quiet`, a step of τ or ✓ has no event
-- nodes; `Stripped`, what a step is with tracking stripped; `Offered`, offers are the derivations' events;
-- `Plainly`, which of them the plain rules have; `Stuck`, what a status says of the plain rules and of the
-- derivations; what every run keeps: `Ranged`, calls and events in range of the table; `Drawn`, arcs into each side, and the rooms; `Marked`, no reference labelled twice;
-- `Climbing`, arcs to larger references, into each but 0; `Drawing`, a fresh reference drawn by each step;
-- `Meetings`, meetings made once, between labelled event nodes of one event; `Holding`, no reference held twice;
-- `Placed`, literals at their places, and Ω at the top or beside a parallel; `Weighed`, what control weighs, and
-- `Parents`, arcs from labelled references, none made twice, and the parents of Ω; `Sided`, where the sides of a
-- choice or parallel begin, `Gauged`, what a gauge reads, and `Branches`, arcs between labelled nodes; `Outward`,
-- arcs to fresh references alone; and the runs of document 01, `Cases`, and of the report, `Examples`, played by
-- computation.
pub mod Derived
pub mod Answered
pub mod Quiet
pub mod Stripped
pub mod Offered
pub mod Plainly
pub mod Stuck
pub mod Ranged
pub mod Drawn
pub mod Marked
pub mod Climbing
pub mod Drawing
pub mod Meetings
pub mod Holding
pub mod Placed
pub mod Weighed
pub mod Parents
pub mod Sided
pub mod Gauged
pub mod Branches
pub mod Outward
pub mod Cases
pub mod Examples
