-- That lines have one answer, and worked runs.
pub mod Answers
pub mod Runs
