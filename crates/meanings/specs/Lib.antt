pub mod Names
pub mod Writable
