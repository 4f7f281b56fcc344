-- Items in order: where they are parted, their links, and walks by these.
pub mod Parts
pub mod Links
pub mod Walks
pub mod Ups
