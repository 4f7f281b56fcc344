pub mod SetLemmas
pub mod ValueLemmas
pub mod OrderLemmas
-- The algebra of sets, by what their maps answer at each list.
pub mod AlgebraLemmas
