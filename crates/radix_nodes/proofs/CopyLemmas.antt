-- Nodes that are alike, copies of nodes, and copies with their first nibbles turned over.
pub mod Same
pub mod Branches
pub mod Copies
pub mod Turned
pub mod Values
pub mod Moves
