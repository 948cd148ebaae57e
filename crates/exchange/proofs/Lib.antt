-- Laws of the exchange: `References`, the references of a process; `RenamedSteps`, a derivation with other
-- references; `Blocks`, the block swap; `Ends`, the ends of arcs; `Hands`, the two sides of a parallel as one;
-- `Later`, a side that steps later; `Swapped`, lists in two orders, and `Views`, what is seen of them; `Levels`,
-- what stands above two exchanged steps, `Fork`, the parallel where they part, and `Orders`, all levels. The
-- theorem is in `Exchange`.
pub mod References
pub mod RenamedSteps
pub mod Blocks
pub mod Ends
pub mod Hands
pub mod Later
pub mod Swapped
pub mod Views
pub mod Levels
pub mod Fork
pub mod Orders
pub mod Exchange
