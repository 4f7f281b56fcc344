-- The lemmas.
-- What the numbers mean that calls return.
pub mod ResultLemmas
