pub mod Kinds
pub mod Plain
