-- The lemmas.
pub mod ByteLemmas
