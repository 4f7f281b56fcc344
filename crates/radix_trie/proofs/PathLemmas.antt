-- What stands at and below a path, and above it.
pub mod Parts
pub mod Loci
pub mod Later
pub mod Limits
pub mod NodesBelow
pub mod Opened
pub mod Above
pub mod Nearest
pub mod Further
pub mod Behind
pub mod ChildViews
pub mod Children
pub mod Joins
pub mod Present
pub mod Below
pub mod Leaves
