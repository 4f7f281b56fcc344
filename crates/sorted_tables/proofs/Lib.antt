-- The lemmas, in the order in which they are read.
pub mod TableLemmas
