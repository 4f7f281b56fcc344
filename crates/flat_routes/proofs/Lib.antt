-- The lemmas.
pub mod ImageLemmas
pub mod SpanLemmas
pub mod IndexLemmas
pub mod TableLemmas
pub mod WriteLemmas
pub mod MergeLemmas
