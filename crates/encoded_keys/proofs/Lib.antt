-- The lemmas, in the order in which they are read.
-- Lists in rising order, how they are packed, and their links.
pub mod CodeLemmas
