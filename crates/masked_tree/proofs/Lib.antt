-- The lemmas, in the order in which they are read.
-- Bits of a mask and the nibbles that they stand for.
pub mod MaskLemmas
-- The tree as data: children at their places, its points, its counts.
pub mod TreeLemmas
-- What stands at a path, and how a search finds it.
pub mod PathLemmas
-- Each step of an insertion and of a removal.
pub mod EditLemmas
-- Equal trees and copies, and their maps.
pub mod SameLemmas
-- Trees whose children's first nibbles are turned over.
pub mod TurnedLemmas
