-- Escapes: how a value is written. Undoing: how a reader undoes it.
pub mod Escapes
pub mod Undoing
