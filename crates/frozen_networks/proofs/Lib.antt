-- The lemmas, in the order in which they are read.
-- Networks in order by their lists of bits.
pub mod OrderLemmas
-- The map of rows, and the rows of a map.
pub mod MapLemmas
-- Rows that are copied one by one, or moved.
pub mod RowLemmas
-- What the map of rows answers, by the words of tables.
pub mod QueryLemmas
