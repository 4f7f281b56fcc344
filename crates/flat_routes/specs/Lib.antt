pub mod Faults
pub mod Images
pub mod Written
pub mod Merged
pub mod RowLaws
pub mod SpanLaws
