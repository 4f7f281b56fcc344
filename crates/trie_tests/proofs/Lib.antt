-- How many pairs a node holds that is put together, and a list of children that grows.
pub mod Counts
-- After a removal from a root the children stand at their places.
pub mod Placed
