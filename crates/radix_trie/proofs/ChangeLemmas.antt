-- What a change of the tree does to the map, and to what the trie keeps.
pub mod Changes
pub mod Removals
pub mod Splits
pub mod Insertions
pub mod Prunings
pub mod Written
pub mod Copies
pub mod Turned
pub mod Keyed
pub mod Popped
pub mod Retained
pub mod Filled
pub mod Branches
pub mod Joined
pub mod Overlaps
