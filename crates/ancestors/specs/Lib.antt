-- Elements of a table, and paths of them.
pub mod Paths
