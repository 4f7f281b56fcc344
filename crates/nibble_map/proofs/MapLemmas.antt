-- The finite map and its entries: edits, what is below a path, values, sameness.
pub mod Bridge
pub mod Edits
pub mod Below
pub mod Without
pub mod Mapped
pub mod Rebuilt
pub mod Values
pub mod Same
pub mod SameTests
pub mod PlainCopies
pub mod Walks
