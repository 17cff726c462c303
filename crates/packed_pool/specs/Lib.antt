-- Marking: where a name stands in the packed pool.
pub mod Marking
