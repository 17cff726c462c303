-- Rows: rows from before makers, one after the other.
pub mod Rows
