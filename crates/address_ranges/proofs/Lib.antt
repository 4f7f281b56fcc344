pub mod BlockLemmas
pub mod CutLemmas
pub mod ListLemmas
pub mod RangeLemmas
pub mod CountLemmas
pub mod LeastLemmas
pub mod RowLemmas
