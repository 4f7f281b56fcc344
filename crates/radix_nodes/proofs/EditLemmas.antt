-- What an insertion, a removal, a cut and a branch that is grafted do at nodes.
pub mod Insertion
pub mod KeyParts
pub mod Steps
pub mod Removal
pub mod Merging
pub mod Placed
pub mod Branches
pub mod Grafts
pub mod GraftedRoots
pub mod Drains
pub mod Settling
pub mod Ends
