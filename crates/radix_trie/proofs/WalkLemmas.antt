-- The walk: the rows of its stack, and the pairs that it gives.
pub mod Rows
pub mod Walks
pub mod Keyed
pub mod Tested
pub mod Prefixes
pub mod Order
pub mod Cuts
pub mod Ends
pub mod FullRows
pub mod Spans
pub mod Pages
pub mod Back
pub mod Stacks
pub mod Steps
