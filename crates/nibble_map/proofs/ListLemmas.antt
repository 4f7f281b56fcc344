-- Lists of nibbles: where two part, what rises, what is a member.
pub mod Cut
pub mod Rising
pub mod Unique
pub mod Parted
pub mod Members
pub mod Sorted
pub mod Turned
