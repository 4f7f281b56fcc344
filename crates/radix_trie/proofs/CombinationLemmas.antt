-- Two tries side by side: what a turn of the walk over both leaves.
pub mod Lists
pub mod Trees
pub mod Nodes
pub mod Parted
pub mod Searches
pub mod Maps
