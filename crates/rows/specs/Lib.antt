-- What is read of a row.
pub mod Reading
