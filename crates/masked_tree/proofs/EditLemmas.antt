-- Each step of an insertion and of a removal.
pub mod Copies
pub mod Insertion
pub mod Removal
