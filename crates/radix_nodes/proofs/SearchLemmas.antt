-- What a search below a child tells of the node.
pub mod Deepest
pub mod Compared
pub mod Nearest
