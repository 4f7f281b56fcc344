-- What stands at a path, and how a search finds it.
pub mod Paths
pub mod Search
pub mod BehindFragment
pub mod Agreement
