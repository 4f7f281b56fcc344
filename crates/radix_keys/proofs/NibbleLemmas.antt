-- Packed lists of nibbles: their bytes, and how they are cut, joined and turned.
pub mod Bytes
pub mod Packing
pub mod Cutting
pub mod Turning
pub mod Comparing
pub mod Slices
pub mod Words
