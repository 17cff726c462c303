-- Rows: what a row number stands for. Meanings: what the numbers of a row say. Walking: an element's declarations, along the links.
-- Path: what is declared along a path. Served: whether a declaration serves.
pub mod Rows
pub mod Meanings
pub mod Walking
pub mod Path
pub mod Served
