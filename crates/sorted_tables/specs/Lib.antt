pub mod Tables
pub mod Errors
