-- The tree as data: children at their places, its points, its counts.
pub mod Children
pub mod Points
pub mod Sizes
