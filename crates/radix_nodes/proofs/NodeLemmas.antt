-- From nodes to plain trees, field by field.
pub mod Nodes
pub mod Pointed
pub mod Pairs
pub mod Sizes
pub mod FewChildren
pub mod Dropping
pub mod Options
