-- The lemmas, in the order in which they are read.
-- Packed lists of nibbles: their bytes, and how they are cut, joined and turned.
pub mod NibbleLemmas
-- Encodings of keys: their order, and keys that are encoded item by item.
pub mod KeyLemmas
-- Lists of bits: those of bytes and of numbers, and which of them begin with which.
pub mod BitLemmas
-- What a text is parted into, and which texts write networks.
pub mod NetworkLemmas
-- An address and its number.
pub mod AddressLemmas
-- Lists of parts: what text is cut into, what their bytes tell, which begin with which, and their order.
pub mod PartLemmas
