pub mod Interning
pub mod Counting
pub mod Keying
