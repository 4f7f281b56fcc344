-- What is borrowed of a node, and what a write to it does to the tree above.
pub mod Lent
pub mod Writes
