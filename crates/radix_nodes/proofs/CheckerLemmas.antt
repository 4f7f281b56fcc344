-- The test of a node says whether it is canonical.
pub mod Masks
pub mod Trees
pub mod Nodes
