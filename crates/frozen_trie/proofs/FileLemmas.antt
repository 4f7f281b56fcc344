-- The file of a map.
pub mod Streams
pub mod Rows
pub mod Faults
pub mod Distinct
pub mod Addresses
pub mod Maps
pub mod Whole
