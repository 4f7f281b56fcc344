-- The map of byte strings in order.
pub mod Parts
pub mod Pairs
pub mod Appended
pub mod Growth
pub mod Written
pub mod Sorted
