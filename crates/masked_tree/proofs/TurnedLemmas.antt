-- Trees whose children's first nibbles are turned over.
pub mod Trees
pub mod Halves
pub mod Maps
