-- A kept root: what it holds, how large it is, and which map it stands for.
pub mod Shown
pub mod Held
pub mod Sizes
pub mod Paths
pub mod Roots
pub mod Checked
