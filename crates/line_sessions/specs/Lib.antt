pub mod Lines
pub mod Answers
pub mod Faults
pub mod Watched
pub mod Sessions
pub mod Standing
