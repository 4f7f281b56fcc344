-- The lemmas, in the order in which they are read.
-- Lists that grow side by side.
pub mod ZipLemmas
-- The bytes of keys.
pub mod KeyLemmas
-- Numbers of 16 bytes.
pub mod WideLemmas
-- Values that stand among an image's own bytes.
pub mod ValueLemmas
