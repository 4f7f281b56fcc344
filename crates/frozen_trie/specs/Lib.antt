pub mod Frozen
pub mod Texts
pub mod FileItems
pub mod FileRows
pub mod Files
pub mod TextLends
pub mod Lends
pub mod Changes
