pub mod TextImages
pub mod TextWritten
