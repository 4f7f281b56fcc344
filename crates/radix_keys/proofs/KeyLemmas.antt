-- Encodings of keys: their order, and keys that are encoded item by item.
pub mod Order
pub mod Ascending
pub mod Items
pub mod Prefixes
