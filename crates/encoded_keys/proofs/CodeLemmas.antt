-- Lists in rising order, how they are packed, and their links.
pub mod Order
pub mod Parts
pub mod Links
pub mod Appended
pub mod Reading
pub mod Growing
pub mod Bytes
pub mod Heads
pub mod Tops
pub mod Sides
pub mod Behind
pub mod Blocks
pub mod Levels
pub mod Narrowing
pub mod Plain
pub mod Making
pub mod Slots
