pub mod CostLemmas
pub mod EditLemmas
pub mod EqualityLemmas
pub mod KeyLemmas
pub mod MergeLemmas
pub mod NearestLemmas
pub mod PartLemmas
pub mod WalkLemmas
