-- The lemmas, in the order in which they are read.
-- From nodes to plain trees, field by field.
pub mod NodeLemmas
-- What an insertion, a removal, a cut and a branch that is grafted do at nodes.
pub mod EditLemmas
-- What a search below a child tells of the node.
pub mod SearchLemmas
-- What is borrowed of a node, and what a write to it does to the tree above.
pub mod LendingLemmas
-- Nodes that are alike, copies of nodes, and copies with their first nibbles turned over.
pub mod CopyLemmas
-- The test of a node says whether it is canonical.
pub mod CheckerLemmas
