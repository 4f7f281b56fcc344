pub mod FilterLemmas
pub mod StoredLemmas
pub mod FormLemmas
pub mod SearchLemmas
