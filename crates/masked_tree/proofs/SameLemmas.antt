-- Equal trees and copies, and their maps.
pub mod Trees
pub mod AlikeEntries
pub mod SharedLists
pub mod Tests
pub mod Copies
