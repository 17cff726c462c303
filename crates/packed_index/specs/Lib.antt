-- Index: the index of the packed names.
pub mod Index
