-- Packed: the rows of a table over the packed pool.
pub mod Packed
