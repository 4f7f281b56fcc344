-- The tree of fragments: its shape, its paths as the points, the one tree of a map.
pub mod Shape
pub mod Points
pub mod Sizes
pub mod SomePrefixes
pub mod Full
pub mod Canonical
pub mod Fragments
pub mod Walked
pub mod Same
pub mod OneTree
pub mod Edits
pub mod Insertion
pub mod Removal
pub mod Steps
