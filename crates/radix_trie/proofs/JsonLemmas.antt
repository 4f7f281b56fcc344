-- Objects and tries that are built of each other, and the order of texts.
pub mod Texts
pub mod Objects
