-- The lemmas, in the order in which they are read.
-- The first bytes of keys as numbers, and which order they tell.
pub mod HeadLemmas
-- What stands in an image, and what it says of the keys.
pub mod ImageLemmas
-- The map of an image: what it answers, by the pairs' indices.
pub mod MapLemmas
-- What stays of an image while it is written.
pub mod StayLemmas
-- Pairs that are to be written.
pub mod WriteLemmas
-- Pairs that stand in an image which is being written.
pub mod HoldLemmas
-- Counts that stand in an image which is being written, and all of it.
pub mod CountLemmas
-- Where a key lies in an image.
pub mod PlaceLemmas
-- Lists that grow by what stands next.
pub mod TableLemmas
