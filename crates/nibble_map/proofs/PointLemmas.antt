-- Points and what queries answer, of any set of stored lists.
pub mod Moves
pub mod OneChild
pub mod Descendant
pub mod Chain
pub mod Rest
pub mod Visited
