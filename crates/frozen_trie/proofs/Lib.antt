-- The lemmas, in the order in which they are read.
-- The map of pairs in order: what it answers, by the pairs' indices.
pub mod FrozenLemmas
-- The map of byte strings in order.
pub mod TextLemmas
-- The file of a map.
pub mod FileLemmas
