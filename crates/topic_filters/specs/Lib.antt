pub mod Filters
pub mod Search
