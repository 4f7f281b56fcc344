-- Networks in order: which hold an address, their links, and parts of them.
pub mod Blocks
pub mod Links
pub mod Directory
pub mod Growing
pub mod Rows
pub mod Parts
pub mod Above
pub mod Single
pub mod Whole
pub mod Nearest
