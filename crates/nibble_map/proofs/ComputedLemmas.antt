-- The computed versions are the answers.
pub mod Points
pub mod Prefixes
pub mod Filters
pub mod Answers
pub mod Children
