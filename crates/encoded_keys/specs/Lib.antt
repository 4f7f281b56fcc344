pub mod Codes
pub mod Laid
pub mod Index
pub mod Heads
pub mod Blocks
pub mod Packed
