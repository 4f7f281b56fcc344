-- The lemmas, in the order in which they are read.
-- A kept root: what it holds, how large it is, and which map it stands for.
pub mod RootLemmas
-- What a change of the tree does to the map, and to what the trie keeps.
pub mod ChangeLemmas
-- What stands at and below a path, and above it.
pub mod PathLemmas
-- What a map answers where its keys are seen as something else.
pub mod MappedLemmas
-- The walk: the rows of its stack, and the pairs that it gives.
pub mod WalkLemmas
-- Two tries side by side: the cut of both at one path, and what their maps hold together.
pub mod CombinationLemmas
-- What callers cite: what parts, walks and pages of a map hold, and the order of keys.
pub mod LawLemmas
-- What proofs by hand cite of the logic.
pub mod Steps
-- A view for writing that is borrowed: its parts.
pub mod PartLemmas
pub mod EntryLemmas
pub mod ViewLemmas
-- A call that says another call's result a second way.
pub mod NestedLemmas
-- A view for writing that is spent.
pub mod SpentLemmas
-- Objects and tries that are built of each other, and the order of texts.
pub mod JsonLemmas
-- Steps over no command, and steps between equal maps.
pub mod CommandLemmas
