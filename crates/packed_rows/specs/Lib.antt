-- Rows: a row of a table over the packed pool.
pub mod Rows
