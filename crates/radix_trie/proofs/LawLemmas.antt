-- What callers cite: what parts, walks, pages and copies of a map hold, and the order of keys.
pub mod Parts
pub mod Orders
pub mod Asked
pub mod Pages
pub mod OneTree
pub mod Turned
pub mod Ranges
