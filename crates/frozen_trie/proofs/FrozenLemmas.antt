-- The map of pairs in order: what it answers, by the pairs' indices.
pub mod Spans
pub mod Rows
pub mod Queries
pub mod Whole
pub mod Thawed
pub mod Copied
pub mod Prefixes
pub mod Written
pub mod Changed
pub mod Laws
